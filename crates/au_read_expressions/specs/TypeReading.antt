-- Reading a type.
use Rattle.std.specs.Prelude.{ℕ, suc, ◌+◌, ◌-◌, Bool, true, false, nat_le, List, [], ◌∷◌, Option, Some}
use Rattle.std.specs.Prelude.{Ok, Err, length, take, cond, not}
use Prim.Native.Nat.{zero}
use Rattle.au_base.specs.declared.places.Pos.{Pos}
use Rattle.au_base.specs.declared.tokens.Sign.TheVariants.{LeftBracket, RightBracket, Comma, ReadBorrow}
use Rattle.au_base.specs.declared.tokens.Sign.TheVariants.{WriteBorrow}
use Rattle.au_base.specs.declared.tokens.Token.{Token}
use Rattle.au_base.specs.declared.tokens.What.{What}
use Rattle.au_base.specs.declared.tokens.What.TheVariants.{Sign, Name}
use Rattle.au_syntax.specs.declared.types.Access.{Access}
use Rattle.au_syntax.specs.declared.types.Access.TheVariants as access
use Rattle.au_syntax.specs.Names.{Placed}
use Rattle.au_syntax.specs.Plain.{Bytes}
use Rattle.au_syntax.specs.Types.{WrittenType, WrittenTypes, named, reference, no_types, types}
use Rattle.au_syntax.specs.Words.{access_sign}
use Rattle.au_read_expressions.specs.declared.faults.Fault.TheVariants.{Syntax, Passed}
use Rattle.au_read_expressions.specs.Bounds.{Bounds, depth_limit, nodes_limit}
use Rattle.au_read_expressions.specs.Reading.{Read, front, is_front, no, name_at, behind_tokens}
use Rattle.au_read_expressions.specs.Reading.{closed, pair, shaped, built}
use Rattle.au_read_expressions.specs.Reading.{bracketed}

-- with which tokens a type begins
abbrev pub begins_type : Option What → Bool
begins_type (Some (Name bytes)) = true
begins_type (Some (Sign ReadBorrow)) = true
begins_type (Some (Sign WriteBorrow)) = true
begins_type other = false

-- a token that doesn't continue a type
abbrev pub ends_type : Option What → Bool
ends_type what = not (is_front (Sign LeftBracket) what)

-- types with commas between, as a tree holds them
abbrev pub types_of : List WrittenType → WrittenTypes
types_of [] = no_types
types_of (t ∷ ts) = types t (types_of ts)

abbrev pub named_of : Placed Bytes × List WrittenType → WrittenType
named_of x = named x.0 (types_of x.1)

abbrev pub reference_of : Access → Pos → WrittenType × Placed Bytes → WrittenType
reference_of access at x = reference at access x.0 x.1

module _ (inner : List Token → Read WrittenType) where
  -- a name and its arguments
  abbrev pub named_with : List Token → Read WrittenType
  named_with = shaped named_of (pair name_at (bracketed LeftBracket RightBracket inner))

  -- a reference
  abbrev pub reference_with : Access → List Token → Read WrittenType
  reference_with access =
      built (reference_of access)
      (behind_tokens (Sign (access_sign access) ∷ Sign LeftBracket ∷ [])
      (pair inner (behind_tokens (Sign Comma ∷ []) (closed (Sign RightBracket ∷ []) name_at))))

  -- by the first token
  abbrev pub type_by : Option What → List Token → Read WrittenType
  type_by (Some (Name bytes)) tokens = named_with tokens
  type_by (Some (Sign ReadBorrow)) tokens = reference_with access.Read tokens
  type_by (Some (Sign WriteBorrow)) tokens = reference_with access.Write tokens
  type_by other tokens = no tokens

  unfoldable pub type_with : List Token → Read WrittenType
  type_with tokens = type_by (front tokens) tokens

module _ (b : Bounds) where
  -- a type that isn't deeper than the number; a type that begins deeper passes the limit
  unfoldable pub type_within : ℕ → List Token → Read WrittenType
  type_within zero tokens =
      cond (begins_type (front tokens)) (Err (Passed (depth_limit b) (length tokens))) (no tokens)
  type_within (suc d) tokens = type_with (type_within d) tokens

-- a name, `&` and `&!` each stand for a node
abbrev pub weight : What → ℕ
weight what = cond (begins_type (Some what)) 1 0

-- the nodes that these tokens stand for
abbrev pub nodes_in : List Token → ℕ
nodes_in [] = 0
nodes_in (token ∷ tokens) = weight token.what + nodes_in tokens

-- those of the tokens before the last ones, of which there are so many
abbrev pub nodes_before : ℕ → List Token → ℕ
nodes_before left tokens = nodes_in (take (length tokens - left) tokens)

-- how many tokens are left where reading stopped
abbrev pub left_at : Read WrittenType → ℕ
left_at (Ok x) = length x.1
left_at (Err (Syntax left)) = left
left_at (Err (Passed l left)) = left

module _ (b : Bounds) where
  -- more nodes than there may be pass their limit, at the first token of the type
  abbrev pub too_many : {A : Type 0} → ℕ → List Token → Read A → Read A
  too_many nodes tokens read =
      cond (nat_le nodes b.nodes) read (Err (Passed (nodes_limit b nodes) (length tokens)))

  -- the nodes of the type that stands here, however deep: those before what is behind it, or before the token
  -- that doesn't continue it
  abbrev pub nodes_here : List Token → ℕ
  nodes_here tokens = nodes_before (left_at (type_within b (length tokens) tokens)) tokens

  abbrev pub judged : List Token → Read WrittenType → Read WrittenType
  judged tokens (Ok x) = too_many (nodes_before (length x.1) tokens) tokens (Ok x)
  judged tokens (Err (Syntax left)) = too_many (nodes_before left tokens) tokens (Err (Syntax left))
  judged tokens (Err (Passed l left)) =
      cond (nat_le (nodes_before left tokens) b.nodes) (Err (Passed l left))
      (too_many (nodes_here tokens) tokens (Err (Passed l left)))

  -- a type within the limits
  unfoldable pub type_at : List Token → Read WrittenType
  type_at tokens = judged tokens (type_within b b.depth tokens)
