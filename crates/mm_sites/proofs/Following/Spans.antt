-- What is entered follows where objects lie and whether they live, and nothing else of a state.
use Rattle.std.proofs.Common.{◌≡◌, ℕ, Bool, true, false, not, List, map, Option, Some, None, refl, sym, ap, ◌∙◌, subst}
use Rattle.std.proofs.lemmas.Option.{slice_get-map}
use Rattle.std.specs.Prelude.{slice_get}
use Rattle.std.specs.Option.{option_map}
use Rattle.mm_model.specs.Object.{Object}
use Rattle.mm_model.specs.State.{State, Lives}
use Rattle.mm_model.specs.Places.SizeClass.{extent_of, object_bytes}
use Rattle.mm_model.specs.Views.ByBase.{Begins}
use Rattle.mm_model.specs.Logs.Turns.{Born}
use Rattle.mm_laws.proofs.Keeping.Seeing.{SeesSame}
use Rattle.mm_laws.proofs.Turning.Bearing.{Views}
use Rattle.mm_sites.specs.Entries.{EntriesByBase}
use Rattle.mm_sites.specs.Living.{entry_with, AreEntered}

-- where an object lies, and whether it is gone
pub record Span : Type 0 where
  pub base : ℕ
  pub extent : ℕ
  pub gone : Bool

abbrev pub span : Object → Span
span object = record { base = object.base; extent = object.extent; gone = object.gone }

abbrev pub span_of : Born → Span
span_of born = record { base = born.base; extent = extent_of (object_bytes born.shape.slots); gone = false }

pub spans : Views span span_of
spans = record { unstuck = λ _ _ _. refl; unpaired = λ _ _. refl; born = λ _ _ _. refl }

-- an object with this span stands under a birth number
pub record Stands (objects : List Object) (birth : ℕ) (s : Span) : Type 0 where
  pub object : Object
  pub is : slice_get objects birth ≡ Some object
  pub same : span object ≡ s

pub stands : (objects : List Object) (birth : ℕ) (s : Span) → slice_get (map span objects) birth ≡ Some s
    → Stands objects birth s
stands objects birth s e =
    split (slice_get objects birth) refl (sym (slice_get-map span objects birth) ∙ e)
  where
    split : (found : Option Object) → slice_get objects birth ≡ found → option_map span found ≡ Some s
        → Stands objects birth s
    split None is e = cc
    split (Some object) is e = let same : span object ≡ s = cc in record { object = object; is = is; same = same }

pub get-span : (objects : List Object) (birth : ℕ) (object : Object) → slice_get objects birth ≡ Some object
    → slice_get (map span objects) birth ≡ Some (span object)
get-span objects birth object is = slice_get-map span objects birth ∙ ap (option_map span) is

-- where it is that of an object that isn't gone, the object lives
pub stands-lives : (a : State) (birth : ℕ) (object : Object) → (object.gone ≡ false)
    → (s : Stands a.objects birth (span object)) → Lives a birth s.object
stands-lives a birth object here s =
    record { is = s.is; live = ap (λ (t : Span). not t.gone) s.same ∙ ap not here }

pub lives-here : (a : State) (birth : ℕ) (object : Object) → Lives a birth object → object.gone ≡ false
lives-here a birth object h = split object.gone h.live
  where
    split : (g : Bool) → not g ≡ true → g ≡ false
    split true e = cc
    split false e = refl

-- what is entered of an object is entered of each one with its span
pub begins-alike : (entries : EntriesByBase) (o p : Object) (site : ℕ) → span o ≡ span p
    → Begins entries o.base (entry_with o site) → Begins entries p.base (entry_with p site)
begins-alike entries o p site same h =
    subst (λ (s : Span). Begins entries s.base (record { extent = s.extent; site = site })) same h

pub entry-alike : (o p : Object) (site : ℕ) → span o ≡ span p → entry_with o site ≡ entry_with p site
entry-alike o p site same = ap (λ (s : Span). record { extent = s.extent; site = site }) same

pub base-alike : (o p : Object) → span o ≡ span p → o.base ≡ p.base
base-alike o p same = ap (λ (s : Span). s.base) same

-- states whose objects have the same spans
lived : (a b : State) → SeesSame span a b → (birth : ℕ) (object : Object) → Lives b birth object
    → Stands a.objects birth (span object)
lived a b same birth object h =
    stands a.objects birth (span object)
    (ap (λ (ss : List Span). slice_get ss birth) (sym same) ∙ get-span b.objects birth object h.is)

pub entered-same : (a b : State) → SeesSame span a b → (sites : List ℕ) (entries : EntriesByBase)
    → AreEntered a sites entries → AreEntered b sites entries
entered-same a b same sites entries entered =
    record {
      all = λ birth object site h.
          let was = lived a b same birth object h.lives in
          let lives = stands-lives a birth object (lives-here b birth object h.lives) was in
          begins-alike entries was.object object site was.same
          (entered.all birth was.object site (record { lives = lives; site_is = h.site_is }));
      only = λ base entry begins.
          let one = entered.only base entry begins in
          let now = lived b a (sym same) one.birth one.object one.lives.lives in
          let lives = stands-lives b one.birth one.object (lives-here a one.birth one.object one.lives.lives) now in
          record {
            birth = one.birth;
            object = now.object;
            site = one.site;
            lives = record { lives = lives; site_is = one.lives.site_is };
            at = base-alike now.object one.object now.same ∙ one.at;
            is = one.is ∙ sym (entry-alike now.object one.object one.site now.same);
          };
    }
