-- What a journal holds after calls, one after another.
use Rattle.std.proofs.Common.{ℕ, Bool, List, [], ◌++◌, Option, sym, append-nil, append_assoc, subst}
use Rattle.mm_model.specs.Logs.Journal.{Holds, Writes}

-- nothing was written
pub writes-none : (kept : Option (List ℕ)) (broken : Bool) → Writes kept broken kept broken []
writes-none kept broken =
    record {
      held = λ text h. subst (Holds kept broken) (sym (append-nil text)) h;
      stays_broken = λ h. h;
      stays_silent = λ h. h;
    }

-- one text, and then another
pub writes-append : {k l m : Option (List ℕ)} {b c d : Bool} (xs ys : List ℕ) → Writes k b l c xs → Writes l c m d ys
    → Writes k b m d (xs ++ ys)
writes-append {m = m} {d = d} xs ys v w =
    record {
      held = λ text h. subst (Holds m d) (append_assoc text xs ys) (w.held (text ++ xs) (v.held text h));
      stays_broken = λ h. w.stays_broken (v.stays_broken h);
      stays_silent = λ h. w.stays_silent (v.stays_silent h);
    }
