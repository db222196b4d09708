-- The nodes of a type are those that its tokens stand for, and it is no deeper than it has tokens.
use Rattle.std.proofs.Common.{◌≡◌, ℕ, ◌+◌, ◌-◌, ◌≤◌, List, [], ◌∷◌, ◌++◌, length, take, refl, ap, ◌∙◌}
use Rattle.std.proofs.Common.{append_assoc, length-append, arith}
use Rattle.std.specs.List.{flat_map}
use Rattle.au_base.specs.declared.tokens.Sign.TheVariants.{RightBracket, Comma}
use Rattle.au_base.specs.declared.tokens.Token.{Token}
use Rattle.au_base.specs.declared.tokens.What.TheVariants.{Sign}
use Rattle.au_syntax.specs.declared.types.Access.{Access}
use Rattle.au_syntax.specs.declared.types.Access.TheVariants as access
use Rattle.au_syntax.specs.Names.{Placed}
use Rattle.au_syntax.specs.Plain.{Bytes}
use Rattle.au_syntax.specs.Sizes.{type_depth, types_depth, type_nodes, types_nodes}
use Rattle.au_syntax.specs.Types.{WrittenType, WrittenTypes, named, reference, no_types, types}
use Rattle.au_syntax.specs.Words.{Words, access_sign, mark, name_words, type_words, words_of_types}
use Rattle.au_read_expressions.specs.Spelling.{Begins}
use Rattle.au_read_expressions.proofs.Begins.{begins_shorter}
use Rattle.au_read_expressions.specs.TypeReading.{weight, nodes_in}

-- ---- the nodes that words stand for

abbrev pub nodes_words : Words → ℕ
nodes_words [] = 0
nodes_words (w ∷ ws) = weight w.what + nodes_words ws

nodes_both : (a b : Words) → nodes_words (a ++ b) ≡ nodes_words a + nodes_words b
nodes_both [] b = omega arith
nodes_both (w ∷ ws) b = let e = nodes_both ws b in omega (arith, e)

-- what stands behind commas
abbrev pub behind_commas : List Words → Words
behind_commas list = flat_map (λ one. mark Comma ++ one) list

borrow_nodes : (mode : Access) → weight (Sign (access_sign mode)) ≡ 1
borrow_nodes access.Read = refl
borrow_nodes access.Write = refl

-- what stands in the brackets of a reference, with the type in front
pub target_words : (ws : Words) (region : Placed Bytes) → ws ++ mark Comma ++ name_words region
    ++ mark RightBracket ≡ ws ++ (mark Comma ++ name_words region ++ mark RightBracket)
target_words ws region = append_assoc (ws ++ mark Comma) (name_words region) (mark RightBracket)
    ∙ append_assoc ws (mark Comma) (name_words region ++ mark RightBracket)

mutual
  pub words_nodes : (t : WrittenType) → nodes_words (type_words t) ≡ type_nodes t
  words_nodes (named name no_types) = refl
  words_nodes (named name (types t ts)) =
      let first : nodes_words ((type_words t ++ behind_commas (words_of_types ts)) ++ mark RightBracket)
      ≡ nodes_words (type_words t ++ behind_commas (words_of_types ts)) + 0 =
      nodes_both (type_words t ++ behind_commas (words_of_types ts)) (mark RightBracket) in
      let second = nodes_both (type_words t) (behind_commas (words_of_types ts)) in
      omega (arith, first, second, words_nodes t, others_nodes ts)
  words_nodes (reference at mode target region) =
      let b : nodes_words (type_words target ++ mark Comma ++ name_words region ++ mark RightBracket)
      ≡ nodes_words (type_words target) + 1 =
      ap nodes_words (target_words (type_words target) region)
      ∙ nodes_both (type_words target) (mark Comma ++ name_words region ++ mark RightBracket)
      ∙ ap (λ n. nodes_words (type_words target) + n) (let one : 0 + (1 + (0 + 0)) ≡ 1 = omega arith in one)
      in
      let start : weight (Sign (access_sign mode)) ≡ 1 = borrow_nodes mode in
      omega (arith, b, start, words_nodes target)

  others_nodes : (ts : WrittenTypes) → nodes_words (behind_commas (words_of_types ts)) ≡ types_nodes ts
  others_nodes no_types = refl
  others_nodes (types t ts) =
      let b = nodes_both (type_words t) (behind_commas (words_of_types ts)) in
      omega (arith, b, words_nodes t, others_nodes ts)

taken_nodes : (ws : Words) (ts rest : List Token) → Begins ws ts rest → nodes_in (take (length ws) ts) ≡ nodes_words ws
taken_nodes [] ts rest h = refl
taken_nodes (w ∷ ws) [] rest h = absurd h
taken_nodes (w ∷ ws) (t ∷ ts) rest h =
    let first : weight t.what ≡ weight w.what = ap weight h.0.0 in
    let others = taken_nodes ws ts rest h.1 in
    omega (arith, first, others)

-- the tokens of a type stand for its nodes
pub type_taken : (t : WrittenType) (ts rest : List Token) → Begins (type_words t) ts rest →
    nodes_in (take (length ts - length rest) ts) ≡ type_nodes t
type_taken t ts rest h =
    let n : length ts - length rest ≡ length (type_words t) = let e = begins_shorter (type_words t) ts rest h
    in omega (arith, e) in
    ap (λ k. nodes_in (take k ts)) n ∙ taken_nodes (type_words t) ts rest h ∙ words_nodes t

-- ---- a type is no deeper than it has words

mutual
  pub depth_words : (t : WrittenType) → type_depth t ≤ length (type_words t)
  depth_words (named name no_types) = omega arith
  depth_words (named name (types t ts)) =
      let first : length ((type_words t ++ behind_commas (words_of_types ts)) ++ mark RightBracket)
      ≡ length (type_words t ++ behind_commas (words_of_types ts)) + 1 =
      length-append (type_words t ++ behind_commas (words_of_types ts)) (mark RightBracket) in
      let second = length-append (type_words t) (behind_commas (words_of_types ts)) in
      omega (arith, first, second, depth_words t, others_depth ts)
  depth_words (reference at mode target region) =
      let inner = ap length (target_words (type_words target) region)
      ∙ length-append (type_words target) (mark Comma ++ name_words region ++ mark RightBracket) in
      omega (arith, inner, depth_words target)

  others_depth : (ts : WrittenTypes) → types_depth ts ≤ length (behind_commas (words_of_types ts))
  others_depth no_types = omega arith
  others_depth (types t ts) =
      let both = length-append (type_words t) (behind_commas (words_of_types ts)) in
      omega (arith, both, depth_words t, others_depth ts)
