-- What is kept over one call is kept over many.
use Rattle.std.specs.Prelude.{ℕ, ◌+◌, ◌-◌, ◌^◌, ◌≤◌, ◌≡◌, ◌⊎◌, Bool, true, false, IsTrue, List, [], ◌∷◌, ◌++◌, map}
use Rattle.std.specs.Prelude.{Option}
use Rattle.std.proofs.Common.{refl, sym, ap, ◌∙◌, subst, inl, inr}
use Rattle.std.proofs.lemmas.List.{append-nil, map-append}
use Rattle.std.proofs.lemmas.List.Concat.{flat_map-append}
use Rattle.std.proofs.Math.Nat.{le_refl, le_trans, add-le-add, le-min, min-le_left, min-le_right}
use Rattle.mm_io.specs.Faults.{Rose}
use Rattle.mm_io.proofs.ToldLemmas.{Appends-append, Appends-nothing}
use Rattle.mm_model.specs.declared.line.Line.{Line}
use Rattle.mm_model.specs.Logs.Journal.{Writes}
use Rattle.mm_model.specs.Logs.Spelling.{spelling, spelling_of}
use Rattle.mm_model.proofs.Text.Journals.{writes-none, writes-append}
use Rattle.mm_sweep.specs.Told.{Told, line_told}
use Rattle.mmgc.specs.Carrying.{Grew}
use Rattle.mmgc.specs.Writing.{Grows, Keeps, Kept}

-- more bytes, and then more
grows-trans : (t u v : Option (List ℕ)) → Grows t u → Grows u v → Grows t v
grows-trans t u v first next = (first.0 ++ next.0, Appends-append t u v first.0 next.0 first.1 next.1)

-- a count that rose from a later moment on rose from an earlier one
rose_earlier : (f g h : ℕ) → f ≤ g → Rose g h → Rose f h
rose_earlier f g h fell rose =
    let top = 2 ^ 64 - 1 in
    le_trans (le-min (le_trans (min-le_left (f + 1) top) (add-le-add fell (le_refl 1)))
    (min-le_right (f + 1) top)) rose

-- what made the writer broken made it so in one of the calls
cause-trans : (f g h : ℕ) (b c d : Bool) → f ≤ g → g ≤ h
    → (IsTrue c → IsTrue b ⊎ Rose f g) → (IsTrue d → IsTrue c ⊎ Rose g h) → IsTrue d → IsTrue b ⊎ Rose f h
cause-trans f g h b c d fg gh first next broken =
    elim (next broken) as (λ _. IsTrue b ⊎ Rose f h) [
      | inl before ↦
          elim (first before) as (λ _. IsTrue b ⊎ Rose f h) [
            | inl start ↦ inl start
            | inr rose ↦
                inr (le_trans rose gh)
          ]
      | inr rose ↦ inr (rose_earlier f g h fg rose)
    ]

-- what is whole was whole before
whole-before : (c d : Bool) → (IsTrue c → IsTrue d) → d ≡ false → c ≡ false
whole-before false d stays whole = refl
whole-before true d stays whole = let broken = stays refl in cc (whole, broken)

-- nothing is undone where nothing is called
pub keeps-same : {sink faults : ℕ} {taken : Option (List ℕ)} {broken : Bool}
    → Keeps sink sink faults faults taken taken broken broken
keeps-same {faults = faults} {taken = taken} =
    record {
      same_sink = refl;
      never_falls = le_refl faults;
      grows = ([], Appends-nothing taken);
      cause = λ broken. inl broken;
      stays_broken = λ broken. broken;
      clean = λ whole. refl;
    }

-- one call after another undoes nothing
pub keeps-trans : {s1 s2 s3 f1 f2 f3 : ℕ} {t1 t2 t3 : Option (List ℕ)} {b1 b2 b3 : Bool}
    → Keeps s1 s2 f1 f2 t1 t2 b1 b2 → Keeps s2 s3 f2 f3 t2 t3 b2 b3 → Keeps s1 s3 f1 f3 t1 t3 b1 b3
keeps-trans {f1 = f} {f2 = g} {f3 = h} {t1 = t} {t2 = u} {t3 = v} {b1 = b} {b2 = c} {b3 = d} first next =
    record {
      same_sink = next.same_sink ∙ first.same_sink;
      never_falls = le_trans first.never_falls next.never_falls;
      grows = grows-trans t u v first.grows next.grows;
      cause = cause-trans f g h b c d first.never_falls next.never_falls first.cause next.cause;
      stays_broken = λ broken. next.stays_broken (first.stays_broken broken);
      clean = λ whole. next.clean whole ∙ first.clean (whole-before c d next.stays_broken whole);
    }

-- nothing is written where nothing is called, and one call writes more after another
pub grew-nothing : (kept : Kept) → Grew kept kept []
grew-nothing kept = writes-none kept.bytes kept.broken

pub grew-on : (before between after : Kept) (earlier later : List Told)
    → Grew before between (spelling_of (map line_told earlier))
    → Grew between after (spelling_of (map line_told later))
    → Grew before after (spelling_of (map line_told (earlier ++ later)))
grew-on before between after earlier later first next =
    subst (Grew before after)
    (sym (flat_map-append spelling (map line_told earlier) (map line_told later))
    ∙ ap spelling_of (sym (map-append line_told earlier later)))
    (writes-append (spelling_of (map line_told earlier)) (spelling_of (map line_told later)) first next)

-- one line is all of a log
pub writes-line : {k l : Option (List ℕ)} {b c : Bool} (line : Line) → Writes k b l c (spelling line)
    → Writes k b l c (spelling_of (line ∷ []))
writes-line {k} {l} {b} {c} line written = subst (Writes k b l c) (sym (append-nil (spelling line))) written
