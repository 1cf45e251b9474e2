-- Parts of a text, written one after another.
use Rattle.std.proofs.Common.{◌≡◌, ℕ, List, [], ◌++◌, length, take, min, Option, Result, Ok, Err, IsErr, sym, subst}
use Rattle.std.proofs.Common.{◌∙◌, append-nil, inl, inr}
use Rattle.std.proofs.lemmas.List.{take_min, take-append-le}
use Rattle.std.proofs.Math.Nat.{min-le_right}
use Rattle.mm_io.specs.declared.fault.Failed.{Failed}
use Rattle.mm_io.specs.Faults.{Counts}
use Rattle.mm_io.specs.Told.{Appends, AppendsFront}
use Rattle.mm_io.proofs.ToldLemmas.{Appends-append, AppendsFront-append, AppendsFront-of-Appends}
use Rattle.mmgc.specs.Telling.{IsTold, Takes}

front_more : (before now : Option (List ℕ)) (text more : List ℕ) → AppendsFront before now text →
    AppendsFront before now (text ++ more)
front_more before now text more h =
    let n = min h.0 (length text) in
    let same : take n (text ++ more) ≡ take h.0 text = take-append-le n text more (min-le_right h.0 (length text))
    ∙ take_min h.0 text in
    (n, subst (Appends before now) (sym same) h.1)

-- a fault in the first part ends the text
pub takes_first : {before now : Option (List ℕ)} {faults faults_now : ℕ} {fault : Failed} {text : List ℕ}
    (result : Result (Unit {0}) Failed) (more : List ℕ) → IsErr result →
    Takes before now faults faults_now (Err fault) text → Takes before now faults faults_now result (text ++ more)
takes_first (Ok done) more e t = cc
takes_first {before = before} {now = now} {text = text} (Err fault) more e t =
    record {
      ok = tt;
      err = front_more before now text more t.err;
      counts = record { never_falls = t.counts.never_falls; cause = t.counts.cause; unraised = tt };
    }

counts_later : {result : Result (Unit {0}) Failed} (earlier before now : ℕ) → before ≡ earlier →
    Counts before now result → Counts earlier now result
counts_later {result = result} earlier before now l c = subst (λ n. Counts n now result) l c

-- the rest follows the first part
pub takes_next : {before between now : Option (List ℕ)} {faults faults_between faults_now : ℕ} {done : Unit {0}}
    (result : Result (Unit {0}) Failed) {text more : List ℕ} →
    Takes before between faults faults_between (Ok done) text →
    Takes between now faults_between faults_now result more →
    Takes before now faults faults_now result (text ++ more)
takes_next {before = before} {between = between} {now = now} {faults = f} {faults_between = g} {faults_now = h}
    (Ok done) {text = text} {more = more} first next =
    record {
      ok = Appends-append before between now text more first.ok next.ok;
      err = tt;
      counts = counts_later f g
          h first.counts.unraised next.counts;
    }
takes_next {before = before} {between = between} {now = now} {faults = f} {faults_between = g} {faults_now = h}
    (Err fault) {text = text} {more = more} first next =
    record {
      ok = tt;
      err = AppendsFront-append before between now text more first.ok next.err;
      counts =
          counts_later f g h first.counts.unraised next.counts;
    }

-- a text that a sink was asked to take was said
pub told : {before now : Option (List ℕ)} {faults faults_now : ℕ} {text : List ℕ}
    (result : Result (Unit {0}) Failed) →
    Takes before now faults faults_now result text → IsTold before now faults faults_now text
told {before = before} {now = now} {text = text} (Ok done) t =
    record {
      front = subst (AppendsFront before now) (append-nil text)
          (AppendsFront-of-Appends before now text [] t.ok);
      whole = inl t.ok;
      never_falls = t.counts.never_falls;
    }
told (Err fault) t = record { front = t.err; whole = inr t.counts.cause; never_falls = t.counts.never_falls }
