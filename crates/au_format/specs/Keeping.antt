-- What a layout keeps of a file.
use Rattle.std.specs.Prelude.{◌≡◌, ℕ, List, [], ◌∷◌}
use Rattle.std.specs.List.{flat_map}
use Rattle.au_base.specs.declared.tokens.Token.{Token as TokenOf}
use Rattle.au_lexer.specs.Cut.{Cut, CutsFront}
use Rattle.au_lexer.specs.Pieces.{Piece, blank, comment, docstring, number, token}
use Rattle.au_syntax.specs.Plain.{PlainModule}
use Rattle.au_syntax.specs.Words.{Spells, spelled, words}
use Rattle.au_format.specs.Layout.{IsLayout, trimmed}
use Rattle.au_format.specs.Places.{whats}

-- a piece as it is laid out, if it is no blank: a comment without its trailing blanks
abbrev pub kept : Piece → List Piece
kept (blank byte) = []
kept (comment bytes) = comment (trimmed bytes) ∷ []
kept (docstring inside) = docstring inside ∷ []
kept (number digits) = number digits ∷ []
kept (token what) = token what ∷ []

-- the tokens and remarks among pieces, in order
abbrev pub kept_among : List Piece → List Piece
kept_among pieces = flat_map kept pieces

-- The tokens and remarks of a file are these, in order.
abbrev pub Holds : List ℕ → List Piece → Type 0
Holds bytes all = (pieces : List Piece) × CutsFront pieces bytes [] × (all ≡ kept_among pieces)

-- The layout of a file has its tokens and remarks, in order.
abbrev pub LayoutKeeps : Type 0
LayoutKeeps =
    (bytes text : List ℕ) → IsLayout bytes text → (all : List Piece) → Holds bytes all → Holds text all

-- The layout of a file is cut into the same tokens, their places aside.
abbrev pub LayoutCuts : Type 0
LayoutCuts =
    (file : ℕ) (bytes text : List ℕ) (tokens : List TokenOf) → Cut file bytes tokens → IsLayout bytes text →
    (others : List TokenOf) × Cut file text others × (whats others ≡ whats tokens)

-- The tokens of the layout of a file that has a tree are the words of this tree, the places aside.
abbrev pub LayoutSays : Type 0
LayoutSays =
    (file : ℕ) (bytes text : List ℕ) (tokens : List TokenOf) (m : PlainModule) → Cut file bytes tokens →
    Spells m tokens → IsLayout bytes text →
    (others : List TokenOf) × Cut file text others × (whats others ≡ spelled (words m))

-- A layout is laid out.
abbrev pub LayoutStays : Type 0
LayoutStays = (bytes text : List ℕ) → IsLayout bytes text → IsLayout text text

-- A file has one layout.
abbrev pub OneLayout : Type 0
OneLayout = (bytes text other : List ℕ) → IsLayout bytes text → IsLayout bytes other → text ≡ other
