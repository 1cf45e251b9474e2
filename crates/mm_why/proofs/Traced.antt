-- The path to what was found, from its end on.
use Rattle.std.proofs.Common.{◌≡◌, ℕ, ◌+◌, ◌<◌, ◌≤◌, List, [], ◌∷◌, ◌++◌, length, take, reverse, Option, Some}
use Rattle.std.proofs.Common.{refl, sym, ap, subst, ◌∙◌, arith, append_assoc, append-nil, length-append, get_or, ◌-◌}
use Rattle.std.specs.Prelude.{slice_get}
use Rattle.std.proofs.lemmas.List.{reverse-append, length-reverse, get_or-reverse}
use Rattle.std.proofs.lemmas.Option.{slice_get_within, slice_get_read}
use Rattle.mm_model.specs.Views.ByBase.{Begins}
use Rattle.mm_model.proofs.Lists.Fronts.{get-take, get-take_within}
use Rattle.mm_why.specs.declared.hop.Hop.{Hop}
use Rattle.mm_why.specs.declared.hop.Via.{Via}
use Rattle.mm_why.specs.declared.hop.Via.TheVariants.{Stack, Area, Slot}
use Rattle.mm_why.specs.declared.found.Found.{Found}
use Rattle.mm_why.specs.Path.{Shown, FallsIn, IsPath, IsPathOf, hop_by}
use Rattle.mm_why.specs.Queue.{Queue, IsLengthBy, IsLonger, IsSoundQueue}
use Rattle.mm_why.specs.Search.{IsWordBy, IsSlotWord, HaveReasons, LeadsOn}

-- the object before, which has the slot
pub record IsBefore (found : List Found) (i : ℕ) (entry : Found) : Type 0 where
  pub by : Found
  pub is : slice_get found entry.lead.from ≡ Some by
  pub earlier : entry.lead.from < i
  pub longer : entry.lead.length ≡ by.lead.length + 1

pub before-slot : (q : Queue) (i : ℕ) (entry : Found) (slot : ℕ) → IsSoundQueue q → slice_get q.found i ≡ Some entry
    → entry.lead.via ≡ Slot slot → IsBefore q.found i entry
before-slot q i entry slot sound is via =
    let own : IsLonger (take i q.found) entry.lead.from entry.lead.length =
    subst (λ (v : Via). IsLengthBy (take i q.found) v entry.lead.from entry.lead.length) via
    (sound.lengths i entry is) in
    let earlier = get-take_within i entry.lead.from q.found own.by own.is in
    record {
      by = own.by;
      is = sym (get-take i entry.lead.from q.found earlier) ∙ own.is;
      earlier = earlier;
      longer = own.longer;
    }

pub length-some : (q : Queue) (i : ℕ) (entry : Found) → IsSoundQueue q → slice_get q.found i ≡ Some entry
    → 1 ≤ entry.lead.length
length-some q i entry sound is = split entry.lead.via (sound.lengths i entry is)
  where
    split : (via : Via) → IsLengthBy (take i q.found) via entry.lead.from entry.lead.length → 1 ≤ entry.lead.length
    split (Stack cell) one = omega arith
    split (Area number cell) one = omega arith
    split (Slot slot) own = let longer = own.longer in omega arith

-- a path has one hop where no slot leads to it
pub length-root : (q : Queue) (i : ℕ) (entry : Found) → IsSoundQueue q → slice_get q.found i ≡ Some entry
    → ((slot : ℕ) → entry.lead.via ≡ Slot slot → ⊥) → entry.lead.length ≡ 1
length-root q i entry sound is none = split entry.lead.via refl (sound.lengths i entry is)
  where
    split : (via : Via) → entry.lead.via ≡ via
        → IsLengthBy (take i q.found) via entry.lead.from entry.lead.length → entry.lead.length ≡ 1
    split (Stack cell) e one = one
    split (Area number cell) e one = one
    split (Slot slot) e own = absurd (none slot e)

reversed : (path : List Hop) (hop : Hop) → reverse (path ++ hop ∷ []) ≡ hop ∷ reverse path
reversed path hop = reverse-append path (hop ∷ [])

-- a path to an object leads on by the slot that the next one was found by
pub leads-slot : (shown : Shown) (q : Queue) (i : ℕ) (entry : Found) (slot : ℕ) (path : List Hop) (target : ℕ)
    (sound : IsSoundQueue q) → HaveReasons shown q.found → (is : slice_get q.found i ≡ Some entry)
    → (by : Found) → slice_get q.found entry.lead.from ≡ Some by → entry.lead.via ≡ Slot slot
    → LeadsOn shown entry.base (reverse path) target
    → LeadsOn shown by.base (reverse (path ++ hop_by entry.lead.via entry.base ∷ [])) target
leads-slot shown q i entry slot path target sound reasons is by there via on front path_to =
    let r = reasons i entry is in
    let own : IsSlotWord shown.objects (take i q.found) entry.lead.from slot r.word =
    subst (λ (v : Via). IsWordBy shown (take i q.found) v entry.lead.from r.word) via r.lead in
    let earlier = get-take_within i entry.lead.from q.found own.by own.is in
    let same : ◌≡◌ {A = Option Found} (Some own.by) (Some by) =
    sym own.is ∙ get-take i entry.lead.from q.found earlier ∙ there in
    let one : own.by ≡ by = cc in
    let holder = subst (λ (f : Found). Begins shown.objects f.base own.holder) one own.begins in
    let next = IsPath.By_slot front by.base own.holder slot r.word entry.base path_to holder own.holds r.falls in
    let whole = on (front ++ hop_by (Slot slot) entry.base ∷ []) next in
    let hops : (front ++ hop_by (Slot slot) entry.base ∷ []) ++ reverse path
    ≡ front ++ reverse (path ++ hop_by entry.lead.via entry.base ∷ []) =
    append_assoc front (hop_by (Slot slot) entry.base ∷ []) (reverse path)
    ∙ ap (λ (v : Via). front ++ (hop_by v entry.base ∷ reverse path)) (sym via)
    ∙ ap (λ (hs : List Hop). front ++ hs) (sym (reversed path (hop_by entry.lead.via entry.base))) in
    subst (λ (hs : List Hop). IsPath shown hs target) hops whole

-- and it begins by a word outside of objects
pub leads-root : (shown : Shown) (q : Queue) (i : ℕ) (entry : Found) (path : List Hop) (target : ℕ)
    → HaveReasons shown q.found → slice_get q.found i ≡ Some entry → ((slot : ℕ) → entry.lead.via ≡ Slot slot → ⊥)
    → LeadsOn shown entry.base (reverse path) target
    → IsPath shown (reverse (path ++ hop_by entry.lead.via entry.base ∷ [])) target
leads-root shown q i entry path target reasons is none on =
    let r = reasons i entry is in
    let first : IsPath shown (hop_by entry.lead.via entry.base ∷ []) entry.base =
    split entry.lead.via refl r.word r.lead
    r.falls in
    subst (λ (hs : List Hop). IsPath shown hs target) (sym (reversed path (hop_by entry.lead.via entry.base)))
    (on (hop_by entry.lead.via entry.base ∷ []) first)
  where
    split : (via : Via) → entry.lead.via ≡ via → (word : ℕ)
        → IsWordBy shown (take i q.found) via entry.lead.from word → FallsIn shown.objects word entry.base
        → IsPath shown (hop_by via entry.base ∷ []) entry.base
    split (Stack cell) e word h falls = IsPath.From_stack cell word entry.base h falls
    split (Area number cell) e word h falls = IsPath.From_area number cell word entry.base h falls
    split (Slot slot) e word h falls = absurd (none slot e)

pub leads-nowhere : (shown : Shown) (base : ℕ) → LeadsOn shown base (reverse []) base
leads-nowhere shown base front path =
    subst (λ (hs : List Hop). IsPath shown hs base) (sym (append-nil front)) path

pub traced : (shown : Shown) (path : List Hop) (hop : Hop) (target count : ℕ)
    → IsPath shown (reverse (path ++ hop ∷ [])) target → length path + 1 ≡ count
    → IsPathOf shown target count (reverse (path ++ hop ∷ []))
traced shown path hop target count leads size =
    let turned = length-reverse (path ++ hop ∷ []) in
    let all = length-append path (hop ∷ []) in
    record { path = leads; length = omega arith }

-- the last hop is kept first
pub hop-kept : (path : List Hop) (k : ℕ) (hop : Hop) → k < length path
    → hop ≡ get_or path (length path - 1 - k) hop → slice_get (reverse path) k ≡ Some hop
hop-kept path k hop below is =
    let size = length-reverse path in
    slice_get_read (reverse path) (length path) k hop (sym size) below (is ∙ sym (get_or-reverse path k hop below))

-- so much room there is for the hops that are left
pub trace-bounded : (q : Queue) (place : ℕ) (last : Found) (hops count : ℕ) → IsSoundQueue q
    → slice_get q.found place ≡ Some last → hops + count ≡ last.lead.length → 1 ≤ count → hops < length q.found
trace-bounded q place last hops count sound is all some =
    let bound = sound.bounded place last is in
    let inside = slice_get_within q.found place last is in
    omega arith
