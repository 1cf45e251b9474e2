-- What the words of a run come to.
use Rattle.std.proofs.Common.{◌≡◌, Bool, true, false, Option, None, Result, Ok, Err, refl, ap}
use Rattle.std.specs.Prelude.{if◌then◌else◌, IsErrOf}
use Rattle.clap.specs.Words.{is_simple}
use Rattle.clap.proofs.OnLiterals.{clap_on_literals}
use Rattle.mmgc.specs.Words.{Choice, Values, mmgc_app}

-- values that are the same one by one
pub values_same : {v w : Values} → v.pages ≡ w.pages → v.max ≡ w.max → v.zct ≡ w.zct → v.queue ≡ w.queue →
    v.stack ≡ w.stack → v.generated ≡ w.generated → v.count ≡ w.count → v.why ≡ w.why →
    v.pace ≡ w.pace → v.sites ≡ w.sites → v.file ≡ w.file → v ≡ w
values_same p m z q s g n y r t f =
    λ i. record {
      pages = p i;
      max = m i;
      zct = z i;
      queue = q i;
      stack = s i;
      generated = g i;
      count = n i;
      why = y i;
      pace = r i;
      sites = t i;
      file = f i;
    }

-- the matches of the program's command are known
pub simple : is_simple mmgc_app ≡ true
unfolding clap_on_literals
simple = refl

-- words that the command doesn't take can't be read
pub unread : (choice : Option Choice) (taken : Bool) → taken ≡ false → (if taken then choice else None) ≡ None
unread choice taken untaken = ap (λ b. if b then choice else None) untaken

-- nor can words whose values ask for nothing
pub unasked : (choice : Option Choice) (taken : Bool) → choice ≡ None → (if taken then choice else None) ≡ None
unasked choice false none = refl
unasked choice true none = none

abbrev error_or : {T E : Type 0} → E → Result T E → E
error_or other (Ok x) = other
error_or other (Err error) = error

-- the same error of another result
pub same_error : {T U E : Type 0} (e f : E) → IsErrOf {T = T} (Err e) f → IsErrOf {T = U} (Err e) f
same_error e f h = ap (λ x. Err x) (ap (error_or e) h)
