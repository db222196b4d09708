-- The copies that are there, and the texts that are left, are all.
use Rattle.std.proofs.Common.{◌≡◌, ◌++◌, drop, map}
use Rattle.std.specs.String.{string_bytes}
use Rattle.au_words.proofs.names.copies.Given as goal

abbrev pub invariant-loop-text : goal.invariant-loop-text
invariant-loop-text l = map string_bytes l.copies.items ++ map (λ text. text.now) (drop l.text-index l.texts)
    ≡ map (λ text. text.now) l.texts
