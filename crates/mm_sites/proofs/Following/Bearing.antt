-- What is entered where one object is born.
use Rattle.std.proofs.Common.{◌≡◌, ◌≢◌, ◌⊎◌, ⊎_elim, inl, inr, ℕ, ◌*◌, ◌/◌, ◌<◌, ◌≤◌, not, List, []}
use Rattle.std.proofs.Common.{◌∷◌, ◌++◌, map, length, Some, None, sym, ap, ◌∙◌, subst, arith, get_or}
use Rattle.std.proofs.lemmas.Bool.{cases_eq}
use Rattle.std.proofs.lemmas.List.{length-map}
use Rattle.std.proofs.lemmas.Option.{slice_get-get_or, slice_get_within}
use Rattle.std.specs.Prelude.{slice_get}
use Rattle.mm_model.specs.Object.{Object}
use Rattle.mm_model.specs.State.{State, Lives}
use Rattle.mm_model.specs.Places.Place.{live_pieces, object_piece}
use Rattle.mm_model.specs.Good.{IsPlaced}
use Rattle.mm_model.specs.Views.ByBase.{Begins, with_entry}
use Rattle.mm_model.specs.Logs.Turns.{Born}
use Rattle.mm_model.proofs.Good.Living.{lives_inside}
use Rattle.mm_model.proofs.Good.LiveLists.{one_birth}
use Rattle.mm_model.proofs.Lists.Growing.{get-front, get-push, get-last}
use Rattle.mm_model.proofs.Lists.Replaced.{get-set_same, get-set_other}
use Rattle.mm_model.proofs.View.ByBase.Entries.{begins_same}
use Rattle.mm_model.proofs.View.ByBase.Seen.{piece_grain}
use Rattle.mm_laws.proofs.Turning.Bearing.{SeesBorn}
use Rattle.mm_sites.specs.declared.entry.Entry.{Entry}
use Rattle.mm_sites.specs.Entries.{EntriesByBase}
use Rattle.mm_sites.specs.Following.{entry_of_birth}
use Rattle.mm_sites.specs.Living.{entry_with, LivesWith, IsEntryOf, AreEntered}
use Rattle.mm_sites.proofs.Following.Spans.{Span, span, span_of, Stands, stands, get-span, stands-lives, lives-here}
use Rattle.mm_sites.proofs.Following.Spans.{begins-alike, entry-alike, base-alike}

module _ (a b : State) (born : Born) (bears : SeesBorn span span_of a (born ∷ []) b)
    (placed : IsPlaced b.settings.max (live_pieces b)) where
  -- the new object is the last
  pub newest : Stands b.objects (length a.objects) (span_of born)
  newest =
      stands b.objects (length a.objects) (span_of born)
      (ap (λ (ss : List Span). slice_get ss (length a.objects)) bears
      ∙ ap (slice_get (map span a.objects ++ span_of born ∷ [])) (sym (length-map a.objects span))
      ∙ get-last (map span a.objects) (span_of born))

  pub newest-lives : Lives b (length a.objects) newest.object
  newest-lives = record { is = newest.is; live = ap (λ (s : Span). not s.gone) newest.same }

  pub newest-base : newest.object.base ≡ born.base
  newest-base = ap (λ (s : Span). s.base) newest.same

  -- it begins on a grain of the region
  pub grain : (n : ℕ) × (born.base ≡ 16 * n) × (n < 256 * b.settings.max)
  grain =
      let inside = lives_inside b placed (length a.objects) newest.object newest-lives in
      let one = piece_grain b.settings.max (object_piece newest.object) inside in
      (one.0, sym newest-base ∙ one.1, one.2)

  -- each object that lived lives
  pub lives_on : (birth : ℕ) (object : Object) → Lives a birth object → Stands b.objects birth (span object)
  lives_on birth object h =
      stands b.objects birth (span object)
      (ap (λ (ss : List Span). slice_get ss birth) bears
      ∙ get-front (map span a.objects) (span_of born ∷ []) birth (span object)
      (get-span a.objects birth object h.is))

  -- and what lives lived, or is the new one
  lived_or_new : (birth : ℕ) (object : Object) → Lives b birth object
      → Stands a.objects birth (span object) ⊎ ((birth ≡ length a.objects) × (span object ≡ span_of born))
  lived_or_new birth object h =
      let here : slice_get (map span a.objects ++ span_of born ∷ []) birth ≡ Some (span object) =
      ap (λ (ss : List Span). slice_get ss birth) (sym bears) ∙ get-span b.objects birth object h.is in
      ⊎_elim
      (λ (old : slice_get (map span a.objects) birth ≡ Some (span object)).
      inl (stands a.objects birth (span object) old))
      (λ (last : (birth ≡ length (map span a.objects)) × (span_of born ≡ span object)).
      inr (last.0 ∙ length-map a.objects span, sym last.1))
      (get-push (map span a.objects) (span_of born) birth (span object) here)

  module _ (sites : List ℕ) (beside : length sites ≡ length a.objects) (site : ℕ) (entries : EntriesByBase)
      (room : 256 * b.settings.max ≤ length entries) (entered : AreEntered a sites entries) where
    abbrev after : EntriesByBase
    after = with_entry born.base (Some (entry_of_birth site born)) entries

    begins_here : Begins after born.base (entry_of_birth site born)
    begins_here =
        let n = grain.0 in
        let at = grain.1 in
        let below = grain.2 in
        let there : born.base / 16 ≡ n = omega arith in
        record {
          grain = n;
          aligned = grain.1;
          is = ap (slice_get after) (sym there)
              ∙ get-set_same entries (born.base / 16) (get_or entries (born.base / 16) None)
              (Some (entry_of_birth site born))
              (slice_get-get_or entries (born.base / 16) None (omega arith));
        }

    -- no other base is at the entry that is replaced
    other_grain : (base n : ℕ) → base ≢ born.base → base ≡ 16 * n → n ≢ born.base / 16
    other_grain base n other aligned = let at = grain.1 in λ same. other (omega arith)

    begins_there : (base : ℕ) (entry : Entry) → base ≢ born.base → Begins entries base entry → Begins after base entry
    begins_there base entry other h =
        record {
          grain = h.grain;
          aligned = h.aligned;
          is = get-set_other entries (born.base / 16) h.grain (Some (entry_of_birth site born))
              (other_grain base h.grain other h.aligned) ∙ h.is;
        }

    began_there : (base : ℕ) (entry : Entry) → base ≢ born.base → Begins after base entry → Begins entries base entry
    began_there base entry other h =
        record {
          grain = h.grain;
          aligned = h.aligned;
          is = sym (get-set_other entries (born.base / 16) h.grain (Some (entry_of_birth site born))
              (other_grain base h.grain other h.aligned)) ∙ h.is;
        }

    new_begins : (object : Object) → span object ≡ span_of born → (s : ℕ) → site ≡ s
        → Begins after object.base (entry_with object s)
    new_begins object same s is =
        subst (λ n. Begins after object.base (entry_with object n)) is
        (subst (λ (t : Span). Begins after t.base (record { extent = t.extent; site = site })) (sym same) begins_here)

    begins_all : (birth : ℕ) (object : Object) (s : ℕ) → LivesWith b (sites ++ site ∷ []) birth object s
        → Begins after object.base (entry_with object s)
    begins_all birth object s h =
        ⊎_elim
        (λ (was : Stands a.objects birth (span object)).
        let within = slice_get_within a.objects birth was.object was.is in
        ⊎_elim
        (λ (old : slice_get sites birth ≡ Some s).
        let lives = stands-lives a birth object (lives-here b birth object h.lives) was in
        let apart : object.base ≢ born.base = λ same.
        let one = one_birth b placed birth (length a.objects) object newest.object h.lives newest-lives
        (same ∙ sym newest-base) in
        omega arith in
        begins_there object.base (entry_with object s) apart
        (begins-alike entries was.object object s was.same
        (entered.all birth was.object s (record { lives = lives; site_is = old }))))
        (λ (last : (birth ≡ length sites) × (site ≡ s)). let place = last.0 in absurd (omega arith))
        (get-push sites site birth s h.site_is))
        (λ (new : (birth ≡ length a.objects) × (span object ≡ span_of born)).
        let place = new.0 in
        ⊎_elim
        (λ (old : slice_get sites birth ≡ Some s).
        let within = slice_get_within sites birth s old in absurd (omega arith))
        (λ (last : (birth ≡ length sites) × (site ≡ s)). new_begins object new.1 s last.1)
        (get-push sites site birth s h.site_is))
        (lived_or_new birth object h.lives)

    new_entry : (base : ℕ) (entry : Entry) → base ≡ born.base → Begins after base entry
        → IsEntryOf b (sites ++ site ∷ []) base entry
    new_entry base entry same begins =
        let here : Begins after base (entry_of_birth site born) =
        subst (λ n. Begins after n (entry_of_birth site born)) (sym same) begins_here in
        record {
          birth = length a.objects;
          object = newest.object;
          site = site;
          lives = record {
            lives = newest-lives;
            site_is = ap (slice_get (sites ++ site ∷ [])) (sym beside) ∙ get-last sites site;
          };
          at = newest-base ∙ sym same;
          is = begins_same after base entry (entry_of_birth site born) begins here
              ∙ ap (λ (s : Span). record { extent = s.extent; site = site }) (sym newest.same);
        }

    old_entry : (base : ℕ) (entry : Entry) → base ≢ born.base → Begins after base entry
        → IsEntryOf b (sites ++ site ∷ []) base entry
    old_entry base entry other begins =
        let one = entered.only base entry (began_there base entry other begins) in
        let now = lives_on one.birth one.object one.lives.lives in
        record {
          birth = one.birth;
          object = now.object;
          site = one.site;
          lives = record {
            lives = stands-lives b one.birth one.object (lives-here a one.birth one.object one.lives.lives) now;
            site_is = get-front sites (site ∷ []) one.birth one.site one.lives.site_is;
          };
          at = base-alike now.object one.object now.same ∙ one.at;
          is = one.is ∙ sym (entry-alike now.object one.object one.site now.same);
        }

    pub entered-born : AreEntered b (sites ++ site ∷ []) after
    entered-born =
        record {
          all = begins_all;
          only = λ base entry begins.
              ⊎_elim (λ (same : base ≡ born.base). new_entry base entry same begins)
              (λ (other : base ≢ born.base). old_entry base entry other begins) (cases_eq base born.base);
        }
