-- Which tokens have no tree, and what files come to that can't be read.
use Rattle.std.specs.Prelude.{◌≡◌, ◌⊎◌, ℕ, ◌+◌, List, [], ◌∷◌, IsTrue, unwrap_or, slice_get}
use Rattle.std.specs.Option.{option_map}
use Rattle.au_base.specs.declared.limits.Limit.{Limit}
use Rattle.au_base.specs.declared.places.Pos.{Pos}
use Rattle.au_base.specs.declared.tokens.Token.{Token}
use Rattle.au_base.specs.Places.{place_after}
use Rattle.au_lexer.specs.Cut.{Cut, IsStray, PassesLimit}
use Rattle.au_lexer.specs.Passing.{IsWithinLimits}
use Rattle.au_parser.specs.Fronts.{IsFaultPlace}
use Rattle.au_parser.specs.Passing.{IsPassed, PassesNone}
use Rattle.au_read_expressions.specs.Bounds.{ModulePasses, usual}
use Rattle.au_syntax.specs.Forms.{formed_module}
use Rattle.au_syntax.specs.Plain.{PlainModule}
use Rattle.au_syntax.specs.Words.{Spells}
use Rattle.au_accepted.specs.Trees.{IsRead, ReadFile}
use Rattle.au_outcomes.specs.declared.outcomes.Outcome.{Outcome}
use Rattle.au_outcomes.specs.declared.outcomes.Outcome.TheVariants as outcome
use Rattle.au_outcomes.specs.declared.refusals.Refusal.TheVariants.{Byte, Syntax}

-- The tokens are the words of no tree, however large.
abbrev pub HasNoTree : List Token → Type 0
HasNoTree tokens = (m : PlainModule) → IsTrue (formed_module m) → Spells m tokens → ⊥

-- Some file begins with the tokens through one of these, and passes this limit first, with that token.
-- There is one such limit at most, at one token, whatever stands behind it: a law of `au_parser`. And
-- whatever tree has these words passes it.
abbrev pub TreesPass : List Token → Limit → Type 0
TreesPass tokens limit =
    IsPassed usual tokens limit
    × ((m : PlainModule) → IsTrue (formed_module m) → Spells m tokens → ModulePasses usual m limit)

-- the place of a token, or the end of the file behind the last one
abbrev pub place_or : Pos → List Token → ℕ → Pos
place_or end tokens index = unwrap_or (option_map (λ (token : Token). token.at) (slice_get tokens index)) end

-- The place of the first token that no file has behind those before it, or the end where the file ends too
-- early; and no limit is passed.
abbrev pub IsPlaceIn : List Token → Pos → Pos → Type 0
IsPlaceIn tokens end at =
    (place : ℕ) × IsFaultPlace tokens place × PassesNone usual tokens × (at ≡ place_or end tokens place)

-- The bytes of the file of a number are cut into tokens that pass no limit, and P holds of them.
abbrev pub HasTokens : ℕ → List ℕ → (List Token → Type 0) → Type 0
HasTokens file bytes P = (tokens : List Token) × Cut file bytes tokens × IsWithinLimits tokens × P tokens

-- What a file of these bytes comes to that can't be read: the first cause that the cut into tokens has
-- counts, a limit or a byte that begins no token; or its tokens have no tree, or their tree passes a limit.
abbrev pub Halts : ℕ → List ℕ → Outcome → Type 0
Halts file bytes (outcome.Refused (Byte at)) = IsStray file bytes at
Halts file bytes (outcome.Passes limit) =
    PassesLimit file bytes limit ⊎ HasTokens file bytes (λ tokens. TreesPass tokens limit)
Halts file bytes (outcome.Refused (Syntax at)) =
    HasTokens file bytes (λ tokens. HasNoTree tokens × IsPlaceIn tokens (place_after file bytes) at)
Halts file bytes other = ⊥

-- The first of files in order that can't be read comes to this.
abbrev pub FirstHalts : ℕ → List (List ℕ) → Outcome → Type 0
FirstHalts file [] arisen = ⊥
FirstHalts file (bytes ∷ others) arisen =
    Halts file bytes arisen
    ⊎ (((one : ReadFile) × IsRead file bytes one) × FirstHalts (file + 1) others arisen)
