-- The kinds of expressions, and what they begin with.
use Rattle.std.proofs.Common.{◌≡◌, true, false, ◌&&◌, List, [], ◌∷◌, ◌++◌, map, refl, ap}
use Rattle.std.specs.List.{list_all, flat_map}
use Rattle.std.proofs.lemmas.Bool.{and_parts}
use Rattle.au_base.specs.declared.places.Pos.{Pos}
use Rattle.au_base.specs.declared.tokens.Keyword.TheVariants.{KwNil}
use Rattle.au_base.specs.declared.tokens.Sign.TheVariants.{Arrow, Dot}
use Rattle.au_base.specs.declared.tokens.What.TheVariants.{Word, Sign}
use Rattle.au_syntax.specs.Expressions.{nil}
use Rattle.au_syntax.specs.Forms.{some, is_atom, is_call, formed_expression}
use Rattle.au_syntax.specs.Names.{Placed}
use Rattle.au_syntax.specs.Plain.{Bytes, PlainExpression}
use Rattle.au_syntax.specs.Expressions as tree
use Rattle.au_syntax.specs.Words.{mark, name_words, dotted, arrow_words, path_words}
use Rattle.au_parser.specs.Measures.{Measured, Measures, plains, begun, inside, expression_measures}
use Rattle.au_parser.specs.Measures.{call_measures}
use Rattle.au_parser.specs.Passing.{SameMeasure}
use Rattle.au_read_expressions.specs.Reading.{behind_tokens, pair, name_at, dotted_at, fields_at}
use Rattle.au_read_expressions.specs.ExpressionReading.{arrow_parts, site}
use Rattle.au_parser.proofs.Told.{Passing, Kind, Example, Honest}
use Rattle.au_parser.proofs.Ways.{behind_kind, pair_kind, behind_honest, pair_honest}
use Rattle.au_parser.proofs.Turns.{turned}
use Rattle.au_parser.proofs.FirstTokens.{First}
use Rattle.au_parser.proofs.Single.{name_kind, name_honest, dotted_kind, dotted_honest, fields_kind}
use Rattle.au_parser.proofs.Single.{fields_honest}

abbrev pub expression_kind : Kind PlainExpression
expression_kind = record { words = expression_measures; good = formed_expression }

abbrev pub atom_kind : Kind PlainExpression
atom_kind = record { words = expression_measures; good = λ e. is_atom e && formed_expression e }

-- a call that is a statement
abbrev pub call_kind : Kind PlainExpression
call_kind = record { words = call_measures; good = λ e. is_call e && formed_expression e }

-- an expression inside another, and an atom
abbrev pub inner_kind : Kind PlainExpression
inner_kind = turned inside expression_kind

abbrev pub inner_atom : Kind PlainExpression
inner_atom = turned inside atom_kind

abbrev origin : Pos
origin = record { file = 0; line = 0; column = 0 }

pub expression_example : Example expression_kind
expression_example = record {
  tree = nil (site origin);
  tokens = record { what = Word KwNil; at = origin } ∷ [];
  is = record { words = ((refl, (refl, tt)), tt); good = refl };
}

pub atom_example : Example atom_kind
atom_example = record {
  tree = nil (site origin);
  tokens = record { what = Word KwNil; at = origin } ∷ [];
  is = record { words = ((refl, (refl, tt)), tt); good = refl };
}

-- ---- the first word of an expression

-- a word with which an expression begins
abbrev pub level_one : Measured
level_one = record { word = record { what = Word KwNil; places = [] }; level = 1; depth = 0; nodes = 0; bytes = 0; before = 0 }

abbrev pub level_two : Measured
level_two = record { word = record { what = Word KwNil; places = [] }; level = 2; depth = 0; nodes = 0; bytes = 0; before = 0 }

pub first_join : (m : Measured) (a c : Measures) → First m a → First m (a ++ c)
first_join m [] c h = absurd h
first_join m (w ∷ a) c h = h

pub first_begun : (m : Measured) (at : Pos) (a : Measures) → First m a → First m (begun at a)
first_begun m at [] h = h
first_begun m at (w ∷ a) h = h

pub first_inside : (a : Measures) → First level_one a → First level_two (inside a)
first_inside [] h = absurd h
first_inside (w ∷ a) h = (ap Rattle.au_parser.specs.Measures.lower h.0, h.1)

one : SameMeasure level_one level_one
one = (refl, (refl, (refl, (refl, refl))))

pub expression_head : (e : PlainExpression) → First level_one (expression_measures e)
expression_head (tree.number site literal) = one
expression_head (tree.negative site literal) = one
expression_head (tree.text site bytes) = one
expression_head (tree.truth site true) = one
expression_head (tree.truth site false) = one
expression_head (tree.nil site) = one
expression_head (tree.path site name fields) = one
expression_head (tree.arrow site name fields) = one
expression_head (tree.call site name args note) = one
expression_head (tree.named_call site name args note) = one
expression_head (tree.parenthesized site e) = one
expression_head (tree.dereference site e) = one
expression_head (tree.borrow site mode name) = one
expression_head (tree.borrow_part site name fields) = one
expression_head (tree.binary site operator a c) =
    first_begun level_one site.at _ (first_join level_one _ (inside (expression_measures c))
    (first_join level_one (expression_measures a) _ (expression_head a)))
expression_head (tree.negation site e) = one
expression_head (tree.typed site e t) =
    first_begun level_one site.at _ (first_join level_one _ (Rattle.au_parser.specs.Measures.written t)
    (first_join level_one (expression_measures e) _ (expression_head e)))
expression_head (tree.choice site c a z) = one

-- ---- names with fields

abbrev pub path_kind : Kind (Placed Bytes × List (Placed Bytes))
path_kind = pair_kind name_kind fields_kind

pub path_honest : (P : Passing) → Honest P path_kind (pair name_at fields_at)
path_honest P = pair_honest P name_kind fields_kind name_at (name_honest P) fields_at (fields_honest P)

abbrev pub arrow_kind : Kind (Placed Bytes × List (Placed Bytes))
arrow_kind = pair_kind name_kind (behind_kind dotted_kind (Sign Arrow ∷ []))

pub arrow_honest : (P : Passing) → Honest P arrow_kind arrow_parts
arrow_honest P = pair_honest P name_kind (behind_kind dotted_kind (Sign Arrow ∷ [])) name_at (name_honest P)
    (behind_tokens (Sign Arrow ∷ []) dotted_at)
    (behind_honest P dotted_kind (Sign Arrow ∷ []) dotted_at (dotted_honest P))

pub some_names : (xs : List (Placed Bytes)) → (some xs && list_all (λ (x : Placed Bytes). true) xs) ≡ true →
    some xs ≡ true
some_names xs g = (and_parts (some xs) (list_all (λ (x : Placed Bytes). true) xs) g).0

fields_line : (xs : List (Placed Bytes)) → plains (flat_map (λ one. mark Dot ++ one) (map name_words xs))
    ≡ fields_kind.words xs
fields_line [] = refl
fields_line (x ∷ xs) = ap (λ ws. plains (mark Dot ++ name_words x) ++ ws) (fields_line xs)

pub path_line : (name : Placed Bytes) (xs : List (Placed Bytes)) → plains (path_words name xs)
    ≡ path_kind.words (name, xs)
path_line name xs = ap (λ ws. plains (name_words name) ++ ws) (fields_line xs)

dots_line : (xs : List (Placed Bytes)) → plains (flat_map (λ one. mark Dot ++ one) (map name_words xs))
    ≡ flat_map (λ one. plains (mark Dot) ++ one) (map name_kind.words xs)
dots_line [] = refl
dots_line (x ∷ xs) = ap (λ ws. plains (mark Dot ++ name_words x) ++ ws) (dots_line xs)

dotted_line : (xs : List (Placed Bytes)) → plains (dotted xs) ≡ dotted_kind.words xs
dotted_line [] = refl
dotted_line (x ∷ xs) = ap (λ ws. plains (name_words x) ++ ws) (dots_line xs)

pub arrow_line : (name : Placed Bytes) (xs : List (Placed Bytes)) → plains (arrow_words name xs)
    ≡ arrow_kind.words (name, xs)
arrow_line name xs = ap (λ ws. plains (name_words name ++ mark Arrow) ++ ws) (dotted_line xs)
