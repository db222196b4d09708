-- The names that are there, and those in the parts that are left, are all.
use Rattle.std.proofs.Common.{◌≡◌, ◌++◌, drop, map}
use Rattle.std.specs.Option.{option_map}
use Rattle.std.specs.String.{string_bytes}
use Rattle.au_words.specs.Reading.{files_at}
use Rattle.au_words.proofs.values.files.Given as goal

abbrev pub invariant-loop-word : goal.invariant-loop-word
invariant-loop-word l =
    option_map (λ others. map string_bytes l.files.items ++ others)
    (files_at (map (λ part. part.now) (drop l.word-index l.parts)))
    ≡ files_at (map (λ part. part.now) l.parts)
