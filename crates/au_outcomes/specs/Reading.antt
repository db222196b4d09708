-- What is kept of files that were read.
use Rattle.std.specs.Prelude.{◌≡◌, ℕ, List, map}
use Rattle.au_base.specs.declared.places.Pos.{Pos}
use Rattle.au_base.specs.declared.tokens.Token.{Token}
use Rattle.au_modules.specs.Programs.{entry}
use Rattle.au_syntax.specs.declared.wholes.FileTree.{FileTree}
use Rattle.au_accepted.specs.Programs.{entries}
use Rattle.au_accepted.specs.Trees.{AreRead, IsRead, ReadFile}
use Rattle.au_outcomes.specs.Trees.{HasNoTree, IsPlaceIn, TreesPass}
use Rattle.au_outcomes.specs.declared.outcomes.Outcome.{Outcome}
use Rattle.au_outcomes.specs.declared.outcomes.Outcome.TheVariants as outcome
use Rattle.au_outcomes.specs.declared.refusals.Refusal.TheVariants.{Syntax}

-- What tokens come to that are the words of no tree within the limits.
abbrev pub TokensHalt : List Token → Pos → Outcome → Type 0
TokensHalt tokens end (outcome.Refused (Syntax at)) = HasNoTree tokens × IsPlaceIn tokens end at
TokensHalt tokens end (outcome.Passes limit) = TreesPass tokens limit
TokensHalt tokens end other = ⊥

-- What is kept of a file that was read: its number with its tree.
abbrev pub IsKept : ℕ → List ℕ → FileTree → Type 0
IsKept file bytes tree =
    (one : ReadFile) × IsRead file bytes one × (entry tree ≡ record { file = file; tree = one.tree })

-- What is kept of files in order, the first of this number.
abbrev pub AreKept : ℕ → List (List ℕ) → List FileTree → Type 0
AreKept file all trees =
    (reads : List ReadFile) × AreRead file all reads × (map entry trees ≡ entries file reads)
