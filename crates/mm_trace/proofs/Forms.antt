-- What the table of forms has at a word, once the word's first byte is known.
use Rattle.std.proofs.Common.{◌≡◌, ℕ, ◌<◌, Bool, true, false, if◌then◌else◌, List, [], ◌∷◌, length, get_or, Option}
use Rattle.std.proofs.Common.{Some, None, bytes_eq, refl, sym, ◌∙◌, ap, arith}
use Rattle.std.specs.Option.{option_map}
use Rattle.mm_model.specs.Logs.Trace.{forms, entry_at}
use Rattle.mm_trace.specs.declared.form.Form.{Form}
use Rattle.mm_trace.specs.Form.{model_form}

option_map-named : (p : Bool) (form : Form)
    → option_map model_form (if p then Some form else None) ≡ (if p then Some (model_form form) else None)
option_map-named true form = refl
option_map-named false form = refl

-- a word whose first byte leaves one name
pub entry_at-named : (word : List ℕ) (b : ℕ) (found : Option Form) (name : List ℕ) (form : Form)
    → 0 < length word → get_or word 0 0 ≡ b
    → found ≡ (if bytes_eq name word then Some form else None)
    → ((rest : List ℕ) → entry_at forms (b ∷ rest)
    ≡ (if bytes_eq name (b ∷ rest) then Some (model_form form) else None))
    → option_map model_form found ≡ entry_at forms word
entry_at-named [] b found name form some first e table = absurd (omega arith)
entry_at-named (x ∷ word) b found name form some first e table =
    ap (option_map model_form) e ∙ option_map-named (bytes_eq name (x ∷ word)) form
    ∙ sym (rw first (table word))

option_map-either : (p q : Bool) (form other_form : Form)
    → option_map model_form (if p then Some form else (if q then Some other_form else None))
    ≡ (if p then Some (model_form form) else (if q then Some (model_form other_form) else None))
option_map-either true q form other_form = refl
option_map-either false true form other_form = refl
option_map-either false false form other_form = refl

-- a word whose first byte leaves two names
pub entry_at-either : (word : List ℕ) (b : ℕ) (found : Option Form) (name other : List ℕ) (form other_form : Form)
    → 0 < length word → get_or word 0 0 ≡ b
    → found ≡ (if bytes_eq name word then Some form else (if bytes_eq other word then Some other_form else None))
    → ((rest : List ℕ) → entry_at forms (b ∷ rest)
    ≡ (if bytes_eq name (b ∷ rest) then Some (model_form form)
    else (if bytes_eq other (b ∷ rest) then Some (model_form other_form) else None)))
    → option_map model_form found ≡ entry_at forms word
entry_at-either [] b found name other form other_form some first e table = absurd (omega arith)
entry_at-either (x ∷ word) b found name other form other_form some first e table =
    ap (option_map model_form) e
    ∙ option_map-either (bytes_eq name (x ∷ word)) (bytes_eq other (x ∷ word)) form other_form
    ∙ sym (rw first (table word))
