-- What is judged to mean something, beside what is meant and what is well formed.
use Rattle.std.specs.Prelude.{List, Option, None, Some, if◌then◌else◌}
use Rattle.au_types.specs.declared.headings.Head.{Head}
use Rattle.au_types.specs.declared.parameters.Parameter.{Parameter}
use Rattle.au_types.specs.declared.types.DeclAt.{DeclAt}
use Rattle.au_types.specs.Types.{Meaning}
use Rattle.au_matching.specs.Forming.{fits, is_formed}
use Rattle.au_judged_types.specs.Reasons.{Outcome, means, fails}

-- what is meant, with the reason forgotten
abbrev pub found : {A : Type 0} → Outcome A → Option A
found (means x) = Some x
found (fails why) = None

-- a type that is well formed over rows and type parameters, and none of another
abbrev pub only_formed : List (DeclAt × Head) → List Parameter → Option Meaning → Option Meaning
only_formed heads params None = None
only_formed heads params (Some t) = if is_formed (fits heads params) heads params t then Some t else None
