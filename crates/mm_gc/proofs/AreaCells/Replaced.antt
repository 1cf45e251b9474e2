-- A counted cell gets another word, between the raise of the new word and the lowering of the old one.
use Rattle.std.proofs.Common.{◌≡◌, ℕ, ◌+◌, List, Option, sym, ap, ◌∙◌, subst}
use Rattle.mm_object.specs.Object.{StoredObjects, views_of}
use Rattle.mm_object.specs.Heap.{Heap}
use Rattle.mm_model.specs.Views.ObjectView.{ObjectsByBase, references_in}
use Rattle.mm_count.specs.Table.{Table, IsCountedAt}
use Rattle.mm_count.specs.Counts.{NamesCounted, KeepsObjects, one_more}
use Rattle.mm_count.specs.Sticky.{with_sticky}
use Rattle.mm_count.proofs.Counted.{one_more-other}
use Rattle.mm_count.proofs.Stores.Stored.{kept-counted}
use Rattle.mm_count.proofs.Sticky.{with_sticky-alike}
use Rattle.mm_gc.specs.AreaCells.{IsReplaced}
use Rattle.mm_gc.specs.Counts.{HasCounts}

-- words outside of objects count nothing by themselves
pub counts-raw : (table : Table) (h : Heap) (raw : List (Option ℕ)) (outside : ℕ → ℕ) → HasCounts table h outside
    → HasCounts table (record h { raw = raw }) outside
counts-raw table h raw outside counts =
    record {
      right = record {
        pages = counts.right.pages;
        spelled = counts.right.spelled;
        entered = counts.right.entered;
        entries = counts.right.entries;
      };
      counted = counts.counted;
      listed = counts.listed;
      unpinned = counts.unpinned;
      linked = record { paired = counts.linked.paired; flagged = counts.linked.flagged };
    }

-- the same for places outside that hold each base as often
pub counts-outside : (table : Table) (h : Heap) (outside outside' : ℕ → ℕ) → ((b : ℕ) → outside' b ≡ outside b)
    → HasCounts table h outside → HasCounts table h outside'
counts-outside table h outside outside' same counts =
    record {
      right = counts.right;
      counted = record {
        exact = λ b v begins counted exact.
            counts.counted.exact b v begins counted exact
            ∙ ap (λ (n : ℕ). references_in (views_of h.objects) b + n) (sym (same b));
        few = counts.counted.few;
      };
      listed = counts.listed;
      unpinned = counts.unpinned;
      linked = counts.linked;
    }

module _ (first raised written : Heap) (raw : List (Option ℕ)) (writes : written ≡ record raised { raw = raw })
    (old word : ℕ) where
  pub replaced-objects : written.objects ≡ raised.objects
  replaced-objects = ap (λ (h : Heap). h.objects) writes

  pub replaced-named : KeepsObjects first.objects raised.objects → NamesCounted first.objects old
      → NamesCounted written.objects old
  replaced-named keeps named some =
      subst (λ (objects : StoredObjects). IsCountedAt objects old) (sym replaced-objects)
      (kept-counted first.objects raised.objects keeps old (named some))

  pub replaced-counts : (table : Table) (before after : ℕ → ℕ) → IsReplaced old word before after
      → HasCounts table raised (one_more before word) → HasCounts table written (one_more after old)
  replaced-counts table before after replaced counts =
      counts-outside table written (one_more before word) (one_more after old) replaced.same
      (subst (λ (h : Heap). HasCounts table h (one_more before word)) (sym writes)
      (counts-raw table raised raw (one_more before word) counts))

  pub replaced-sticky : (before after : ℕ → ℕ) → IsReplaced old word before after → (objects : ObjectsByBase)
      → with_sticky (one_more before word) word objects ≡ with_sticky after word objects
  replaced-sticky before after replaced objects =
      with_sticky-alike (one_more before word) after word objects
      (sym (replaced.same word) ∙ one_more-other after old word (λ e. replaced.other (sym e)))

  pub replaced-rest : (lowered : Heap) → raised ≡ record first { objects = raised.objects }
      → lowered ≡ record written { objects = lowered.objects }
      → lowered ≡ record first { objects = lowered.objects; raw = lowered.raw }
  replaced-rest lowered raises lowers =
      ap with_these lowers ∙ ap with_these writes ∙ ap with_these raises
    where
      with_these : Heap → Heap
      with_these h = record h { objects = lowered.objects; raw = lowered.raw }
