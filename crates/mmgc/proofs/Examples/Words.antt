-- Words at the greatest value of each option, and one past it.
use Rattle.std.proofs.Common.{◌≡◌, List, ℕ, [], ◌∷◌, Option, None, Some, codes, refl}
use Rattle.clap.proofs.OnLiterals.{clap_on_literals}
use Rattle.mm_model.specs.declared.settings.Settings.{Settings}
use Rattle.mmgc.specs.Words.{Choice, choice_read}
use Rattle.mmgc.proofs.Unhindered.{no_words}

-- an option with its value
abbrev words : List ℕ → List ℕ → List (List ℕ)
words option value = option ∷ value ∷ []

-- what is asked for with these settings of the heap
abbrev with_settings : Settings → Option Choice
with_settings settings = Some (record no_words { settings = settings })

pub pages : choice_read (words (codes "--pages") (codes "4096"))
    ≡ with_settings (record { pages = 4096; max = 4096; zct = 256; queue = 256; stack = 1024 })
unfolding clap_on_literals
pages = refl

pub pages-past : choice_read (words (codes "--pages") (codes "4097")) ≡ None
unfolding clap_on_literals
pages-past = refl

pub max : choice_read (words (codes "--max") (codes "4096"))
    ≡ with_settings (record { pages = 1024; max = 4096; zct = 256; queue = 256; stack = 1024 })
unfolding clap_on_literals
max = refl

pub max-past : choice_read (words (codes "--max") (codes "4097")) ≡ None
unfolding clap_on_literals
max-past = refl

pub zct : choice_read (words (codes "--zct") (codes "1048575"))
    ≡ with_settings (record { pages = 1024; max = 1024; zct = 1048575; queue = 256; stack = 1024 })
unfolding clap_on_literals
zct = refl

pub zct-past : choice_read (words (codes "--zct") (codes "1048576")) ≡ None
unfolding clap_on_literals
zct-past = refl

pub queue : choice_read (words (codes "--queue") (codes "65536"))
    ≡ with_settings (record { pages = 1024; max = 1024; zct = 256; queue = 65536; stack = 1024 })
unfolding clap_on_literals
queue = refl

pub queue-past : choice_read (words (codes "--queue") (codes "65537")) ≡ None
unfolding clap_on_literals
queue-past = refl

pub stack : choice_read (words (codes "--stack") (codes "65536"))
    ≡ with_settings (record { pages = 1024; max = 1024; zct = 256; queue = 256; stack = 65536 })
unfolding clap_on_literals
stack = refl

pub stack-past : choice_read (words (codes "--stack") (codes "65537")) ≡ None
unfolding clap_on_literals
stack-past = refl

pub generated : choice_read (codes "--gen" ∷ codes "4294967295" ∷ codes "--count" ∷ codes "4000000" ∷ [])
    ≡ Some (record no_words { generated = Some (record { seed = 4294967295; count = 4000000 }) })
unfolding clap_on_literals
generated = refl

pub generated-past : choice_read (codes "--gen" ∷ codes "4294967296" ∷ codes "--count" ∷ codes "1" ∷ []) ≡ None
unfolding clap_on_literals
generated-past = refl

pub count-past : choice_read (codes "--gen" ∷ codes "1" ∷ codes "--count" ∷ codes "4000001" ∷ []) ≡ None
unfolding clap_on_literals
count-past = refl
