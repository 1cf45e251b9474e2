-- Words that are written behind others.
use Rattle.std.proofs.Common.{◌≡◌, ℕ, ◌+◌, ◌-◌, ◌<◌, ◌≤◌, List, [], ◌∷◌, ◌++◌, length, take, drop, refl, sym, ap, ◌∙◌}
use Rattle.std.proofs.Common.{arith}
use Rattle.std.specs.Prelude.{slice_set, slice_index, slice_range}
use Rattle.std.proofs.lemmas.List.Sums.{sum_by_more}
use Rattle.mm_model.specs.Views.ObjectView.{ObjectsByBase}
use Rattle.mm_reap.specs.Slots.{counted_slots_at, counted_slots_of}
use Rattle.std.proofs.lemmas.List.{take-set, take_more_set, drop-set-lt, drop-drop, take-take, take-append-le}
use Rattle.std.proofs.lemmas.List.{take_all, length-take}
use Rattle.std.proofs.Math.ListN.{length-set}
use Rattle.mm_words.specs.Piece.{Piece, with_words}
use Rattle.mm_words.specs.Location.{Location, location_of}
use Rattle.mm_reap.specs.Filled.{IsFilled}

module _ (a b : Piece) (k word : ℕ) (writes : b ≡ with_words a (slice_set a.words k word))
    (below : k < length a.words) where
  words-is : b.words ≡ slice_set a.words k word
  words-is = ap (λ (p : Piece). p.words) writes

  pub filled-one : IsFilled a b k (k + 1)
  filled-one =
      record {
        location = ap location_of writes
            ∙ ap (λ (n : ℕ). record (location_of a) { size = n }) (length-set a.words k word);
        front = ap (take k) words-is ∙ take-set a.words k word;
        behind = ap (drop (k + 1)) words-is ∙ drop-set-lt (k + 1) a.words k word (omega arith);
        order = omega arith;
        within = let size = ap length words-is in let same = length-set a.words k word in omega arith;
      }

  pub front-one : take (k + 1) b.words ≡ take k a.words ++ word ∷ []
  front-one = ap (take (k + 1)) words-is ∙ take_more_set a.words k word below

pub filled-none : (a : Piece) (k : ℕ) → k ≤ length a.words → IsFilled a a k k
filled-none a k within =
    record { location = refl; front = refl; behind = refl; order = omega arith; within = within }

pub filled-both : (a b c : Piece) (i k n : ℕ) → IsFilled a b i k → IsFilled b c k n → IsFilled a c i n
filled-both a b c i k n p q =
    record {
      location = q.location ∙ p.location;
      front = sym (take-take i k c.words p.order) ∙ ap (take i) q.front ∙ take-take i k b.words p.order ∙ p.front;
      behind = q.behind ∙ sym (drop-from b.words) ∙ ap (drop (n - k)) p.behind ∙ drop-from a.words;
      order = let x = p.order in let y = q.order in omega arith;
      within = q.within;
    }
  where
    drop-from : (words : List ℕ) → drop (n - k) (drop k words) ≡ drop n words
    drop-from words =
        let same : k + (n - k) ≡ n = let x = q.order in omega arith in
        drop-drop (n - k) k words ∙ ap (λ m. drop m words) same

pub size-same : (a b : Piece) (k n : ℕ) → IsFilled a b k n → length b.words ≡ length a.words
size-same a b k n filled = ap (λ (l : Location). l.size) filled.location

-- the counted slots of the first ones and the next
pub sum-front : (objects : ObjectsByBase) (a b : Piece) (k n i : ℕ) → IsFilled a b k n → i < k → k ≤ length a.words
    → counted_slots_of objects (take (i + 1) b.words)
    ≡ counted_slots_of objects (take i a.words) + counted_slots_at objects (slice_index a.words i)
sum-front objects a b k n i filled below within =
    ap (counted_slots_of objects)
    (sym (take-take (i + 1) k b.words (omega arith)) ∙ ap (take (i + 1)) filled.front
    ∙ take-take (i + 1) k a.words (omega arith))
    ∙ sum_by_more (counted_slots_at objects) a.words i 0 (omega arith)

pub length-front : (words : List ℕ) (k : ℕ) → k ≤ length words → length (slice_range words 0 (0 + k)) ≡ k
length-front words k within = simp (length-take) (omega arith)

-- the words at the front once others were written there
pub front-written : (words new : List ℕ) (k : ℕ) → length new ≡ k → k ≤ length words
    → take k (take (length words) (take 0 words ++ new ++ drop (0 + length new) words)) ≡ new
front-written words new k size within =
    take-take k (length words) (new ++ drop (0 + length new) words) within
    ∙ take-append-le k new (drop (0 + length new) words) (omega arith)
    ∙ take_all k new (omega arith)

-- what is written to the front again
pub filled-again : (a b c : Piece) (n : ℕ) → IsFilled a b 0 n → IsFilled b c 0 n → IsFilled a c 0 n
filled-again a b c n p q =
    record {
      location = q.location ∙ p.location;
      front = refl;
      behind = q.behind ∙ p.behind;
      order = q.order;
      within = q.within;
    }
