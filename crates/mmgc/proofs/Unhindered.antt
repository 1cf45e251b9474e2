-- A run without words whose input is a trace.
use Rattle.std.proofs.Common.{◌≡◌, ℕ, List, [], Option, Some, None, IsSome, refl, sym, subst, ◌∙◌, arith}
use Rattle.std.specs.Prelude.{IfSome}
use Rattle.clap.proofs.OnLiterals.{clap_on_literals}
use Rattle.mm_io.specs.Faults.{Rose}
use Rattle.mmgc.specs.Program.{Traffic}
use Rattle.mmgc.specs.Completing.{IsTrace, IsUnhindered}
use Rattle.mmgc.specs.Words.{Choice, choice_read, no_extras}

-- what holds where no word stands
abbrev pub no_words : Choice
no_words =
    record {
      settings = record { pages = 1024; max = 1024; zct = 256; queue = 256; stack = 1024 };
      file = None;
      generated = None;
      extras = no_extras;
    }

pub no_words-read : choice_read [] ≡ Some no_words
unfolding clap_on_literals
no_words-read = refl

pub unhindered : (traffic : Traffic) (bytes : List ℕ) → IsTrace bytes → IsSome traffic.input.left_after →
    traffic.input.left ≡ Some bytes →
    (Rose traffic.input.faults traffic.input.faults_after → ⊥) →
    (Rose traffic.output.faults traffic.output.faults_after → ⊥) → IsUnhindered [] traffic
unhindered traffic bytes trace told left reads writes =
    record {
      choice = no_words;
      readable = no_words-read;
      input = λ none. record {
        trace = λ input is. subst (λ (o : Option (List ℕ)). IfSome o IsTrace) (sym (is ∙ left)) trace;
        told = told;
        reads = reads;
      };
      writes = writes;
    }

-- a count that is always 0 never rises
pub never_rises : Rose 0 0 → ⊥
never_rises rose = omega (arith, rose)
