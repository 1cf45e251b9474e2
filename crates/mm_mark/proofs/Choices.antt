-- What a choice of an object costs.
use Rattle.std.proofs.Common.{◌≡◌, ℕ, ◌+◌, ◌*◌, [], length, sym, ap, ◌∙◌, arith}
use Rattle.mm_mark.specs.Marker.{Marker}
use Rattle.mm_mark.specs.Refill.{IsRefilled, IsChoiceCost}

-- once the queue is empty a walk may follow
pub queue-emptied : (before mid after : Marker) (pages old now new : ℕ) → mid.queue ≡ []
    → mid.left_out ≡ before.left_out → now + 2 * length mid.queue ≡ old + 2 * length before.queue
    → IsChoiceCost mid after pages now new → IsChoiceCost before after pages old new
queue-emptied before mid after pages old now new empty left paid (IsChoiceCost.Is_queued same cost) =
    IsChoiceCost.Is_queued (same ∙ left) (omega arith)
queue-emptied before mid after pages old now new empty left paid (IsChoiceCost.Is_walked walked) =
    let cost = walked.cost in
    IsChoiceCost.Is_walked (record {
      next = walked.next;
      left = sym left ∙ walked.left;
      refilled = walked.refilled;
      cost = omega arith;
    })

-- what is scanned in part doesn't matter
module _ (chosen after : Marker) (room : after.room ≡ chosen.room) (queue : after.queue ≡ chosen.queue)
    (left : after.left_out ≡ chosen.left_out) where
  refilled-alike : IsRefilled chosen → IsRefilled after
  refilled-alike (IsRefilled.Is_full full) = IsRefilled.Is_full (ap length queue ∙ full ∙ sym room)
  refilled-alike (IsRefilled.Is_through none) = IsRefilled.Is_through (left ∙ none)

  pub choice-alike : (before : Marker) (pages old new : ℕ) → IsChoiceCost before chosen pages old new
      → IsChoiceCost before after pages old new
  choice-alike before pages old new (IsChoiceCost.Is_queued same cost) =
      let size = ap length queue in
      IsChoiceCost.Is_queued (left ∙ same) (omega arith)
  choice-alike before pages old new (IsChoiceCost.Is_walked walked) =
      let size = ap length queue in
      let cost = walked.cost in
      IsChoiceCost.Is_walked (record {
        next = walked.next;
        left = walked.left;
        refilled = refilled-alike walked.refilled;
        cost = omega arith;
      })
