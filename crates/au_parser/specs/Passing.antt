-- Which limit a file passes first, and with which of its words.
use Rattle.std.specs.Prelude.{◌≡◌, ◌<◌, ℕ, ◌+◌, nat_le, cond, Option, Some, None, List, [], ◌∷◌, ◌++◌, length}
use Rattle.std.specs.Prelude.{take, drop, IsTrue}
use Rattle.au_base.specs.declared.tokens.Token.{Token}
use Rattle.au_syntax.specs.Forms.{formed_module}
use Rattle.au_syntax.specs.Plain.{PlainModule}
use Rattle.au_syntax.specs.Words.{Spells}
use Rattle.au_base.specs.declared.limits.Limit.{Limit}
use Rattle.au_read_expressions.specs.Bounds.{Bounds, nesting_limit, depth_limit, nodes_limit, bytes_limit}
use Rattle.au_parser.specs.Measures.{Measured, Measures, measures}
use Rattle.au_parser.specs.TypeFronts.{NodesOf}

-- which limit is passed; that of a type's nodes with a word before which so many words of the type stand
pub data Excess : Type 0 where
  of_nesting : Excess
  of_depth : Excess
  of_nodes : ℕ → Excess
  of_bytes : Excess

-- the limit that a word passes, where so many levels may be nested: of a type its depth before its nodes
abbrev pub passed_by : Bounds → ℕ → Measured → Option Excess
passed_by b levels w =
    cond (nat_le w.level levels) (cond (nat_le w.depth b.depth) (cond (nat_le w.nodes b.nodes)
    (cond (nat_le w.bytes b.bytes) None (Some of_bytes)) (Some (of_nodes w.before))) (Some of_depth))
    (Some of_nesting)

-- what a word passes, if it passes something
abbrev pub Passes : Type 0
Passes = Measured → Option Excess

-- these words pass nothing
abbrev pub Keep : Passes → Measures → Type 0
Keep p [] = Unit {0}
Keep p (w ∷ ws) = (p w ≡ None) × Keep p ws

-- the words of these tokens pass nothing
abbrev pub KeepOver : Passes → List Token → Measures → Type 0
KeepOver p [] ws = Unit {0}
KeepOver p (t ∷ ts) [] = ⊥
KeepOver p (t ∷ ts) (w ∷ ws) = (p w ≡ None) × KeepOver p ts ws

-- the words of these tokens pass nothing, and the next word passes this limit
abbrev pub PassBehind : Passes → Excess → List Token → Measures → Type 0
PassBehind p what ts [] = ⊥
PassBehind p what [] (w ∷ ws) = p w ≡ Some what
PassBehind p what (t ∷ ts) (w ∷ ws) = (p w ≡ None) × PassBehind p what ts ws

-- the same of each limit is known with these words
abbrev pub SameMeasure : Measured → Measured → Type 0
SameMeasure w v =
    (w.level ≡ v.level) × ((w.depth ≡ v.depth) × ((w.nodes ≡ v.nodes)
    × ((w.bytes ≡ v.bytes) × (w.before ≡ v.before))))

-- the same is known with each of these tokens
abbrev pub Agree : List Token → Measures → Measures → Type 0
Agree [] a c = Unit {0}
Agree (t ∷ ts) [] c = ⊥
Agree (t ∷ ts) (w ∷ a) [] = ⊥
Agree (t ∷ ts) (w ∷ a) (v ∷ c) = SameMeasure w v × Agree ts a c

-- That of nodes is told with how many the type has, as far as the tokens go. These stand in front of the
-- word that passes it, so many of them in the type, and those from that word on.
pub record TellsNodes (b : Bounds) (before : ℕ) (front back : List Token) (l : Limit) : Type 0 where
  pub others : List Token
  pub begun : List Token
  pub same : front ≡ others ++ begun
  pub size : length begun ≡ before
  pub count : ℕ
  pub nodes : NodesOf (begun ++ back) count
  pub limit : l ≡ nodes_limit b count

-- what is told of a limit that is passed, with the tokens in front and those from the word on that passes it
abbrev pub IsTold : Bounds → Excess → List Token → List Token → Limit → Type 0
IsTold b of_nesting front back l = l ≡ nesting_limit b
IsTold b of_depth front back l = l ≡ depth_limit b
IsTold b (of_nodes before) front back l = TellsNodes b before front back l
IsTold b of_bytes front back l = l ≡ bytes_limit b

module _ (b : Bounds) where
  -- some file begins with these tokens, and they pass no limit in it
  pub record KeepsLimits (tokens : List Token) : Type 0 where
    pub tree : PlainModule
    pub rest : List Token
    pub formed : IsTrue (formed_module tree)
    pub spelled : Spells tree (tokens ++ rest)
    pub keeps : KeepOver (passed_by b b.nesting) tokens (measures tree)

  -- some file begins with the tokens through this place, and passes a limit first, with the token there, of
  -- which this is told
  pub record PassesAt (tokens : List Token) (place : ℕ) (l : Limit) : Type 0 where
    pub within : place < length tokens
    pub tree : PlainModule
    pub rest : List Token
    pub formed : IsTrue (formed_module tree)
    pub spelled : Spells tree (take (place + 1) tokens ++ rest)
    pub what : Excess
    pub passes : PassBehind (passed_by b b.nesting) what (take place tokens) (measures tree)
    pub told : IsTold b what (take place tokens) (drop place tokens) l

  -- this limit is passed first
  abbrev pub IsPassed : List Token → Limit → Type 0
  IsPassed tokens l = (place : ℕ) × PassesAt tokens place l

  -- no limit is passed
  abbrev pub PassesNone : List Token → Type 0
  PassesNone tokens = (l : Limit) → IsPassed tokens l → ⊥
