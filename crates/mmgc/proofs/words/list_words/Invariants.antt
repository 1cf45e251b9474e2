use Rattle.std.proofs.Common.{◌≡◌, ◌∷◌, codes, map, take, string_bytes}
use Rattle.mmgc.proofs.words.list_words.Given as goal

abbrev pub invariant-loop-word : goal.invariant-loop-word
invariant-loop-word l =
    map (λ word. word.now) l.list.items ≡ codes "mmgc" ∷ map (λ word. string_bytes word) (take l.word-index l.words)
