-- What is read of a plain line: one where no space stands but one between two words.
use Rattle.std.specs.Prelude.{◌≡◌, ◌<◌, ◌==◌, ℕ, Bool, true, not, ◌&&◌, List, ◌∷◌, ◌++◌, length, Some, Ok}
use Rattle.std.specs.List.{list_all}
use Rattle.mm_model.specs.Logs.Trace.{words_of, is_comment, forms, entry_at, number_of, kind_of}
use Rattle.mm_model.specs.declared.object.Kind.{Kind}
use Rattle.mm_trace.specs.Form.{model_form}
use Rattle.mm_trace.specs.declared.form.Form.{Form}

-- bytes among which there is no space
abbrev pub has_no_space : List ℕ → Bool
has_no_space word = list_all (λ b. not (b == 32)) word

-- a word that doesn't make its line a comment
abbrev pub is_name : List ℕ → Bool
is_name word = has_no_space word && not (is_comment word)

-- where a word stands in front of the text, it ends there, and the rest has the other words
abbrev pub EndsWord : List ℕ → List ℕ → Type 0
EndsWord text rest =
    (word : List ℕ) → 0 < length word → has_no_space word ≡ true → words_of (word ++ text) ≡ word ∷ words_of rest

-- the first word of the text is such a word, and the rest has the other words
pub record BeginsWith (IsSuch : List ℕ → Type 0) (text rest : List ℕ) : Type 0 where
  pub word : List ℕ
  pub words : words_of text ≡ word ∷ words_of rest
  pub such : IsSuch word

-- the first word names a command of this form
abbrev pub BeginsWithName : List ℕ → Form → List ℕ → Type 0
BeginsWithName line form rest = BeginsWith (λ word. entry_at forms word ≡ Some (model_form form)) line rest

-- the first word is this number
abbrev pub BeginsWithNumber : List ℕ → ℕ → List ℕ → Type 0
BeginsWithNumber text number rest = BeginsWith (λ word. number_of word ≡ Ok number) text rest

-- the first word is this kind word
abbrev pub BeginsWithKind : List ℕ → (Kind × Bool) → List ℕ → Type 0
BeginsWithKind text kind rest = BeginsWith (λ word. kind_of word ≡ Ok kind) text rest
