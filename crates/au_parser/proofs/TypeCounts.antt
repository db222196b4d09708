-- The nodes of types, counted word by word.
use Rattle.std.proofs.Common.{◌≡◌, ℕ, zero, suc, ◌+◌, ◌-◌, ◌≤◌, ◌<◌, Bool, true, false, List, [], ◌∷◌, ◌++◌}
use Rattle.std.proofs.Common.{length, take, nat_le, Some, None, refl, sym, ap, ◌∙◌, arith}
use Rattle.std.proofs.lemmas.Bool.{leb-true, leb-false, le-leb, lt-leb}
use Rattle.std.specs.List.{flat_map}
use Rattle.au_base.specs.declared.tokens.Sign.TheVariants.{RightBracket, Comma}
use Rattle.au_base.specs.declared.tokens.Token.{Token}
use Rattle.au_syntax.specs.declared.types.Access.TheVariants as access
use Rattle.au_syntax.specs.Types.{WrittenType, WrittenTypes, named, reference, no_types, types}
use Rattle.au_syntax.specs.Words.{mark}
use Rattle.au_read_expressions.specs.Bounds.{Bounds}
use Rattle.au_read_expressions.specs.TypeReading.{weight, nodes_in, nodes_before}
use Rattle.au_parser.specs.Measures.{Measured, Measures, plains, under, type_measures}
use Rattle.au_parser.specs.Measures.{measures_of_types, counted}
use Rattle.au_parser.specs.Passing.{passed_by, Keep, KeepOver, PassBehind, Passes, Agree, Excess}
use Rattle.au_parser.specs.Passing.{of_depth, of_nodes}
use Rattle.au_parser.proofs.Told.{AreMeasured}
use Rattle.au_parser.proofs.Levels.{tests}
use Rattle.au_parser.proofs.TypeDepths.{depths, depth_test}

-- ---- the words of types

-- a word of a type tells of no level and of no bytes, and weighs what its token does
abbrev pub Typed : Measured → Type 0
Typed w = (w.level ≡ 0) × ((w.bytes ≡ 0) × (w.nodes ≡ weight w.word.what))

abbrev pub AllTyped : Measures → Type 0
AllTyped [] = Unit {0}
AllTyped (w ∷ ws) = Typed w × AllTyped ws

typed_join : (a b : Measures) → AllTyped a → AllTyped b → AllTyped (a ++ b)
typed_join [] b h k = k
typed_join (w ∷ a) b h k = (h.0, typed_join a b h.1 k)

typed_under : (a : Measures) → AllTyped a → AllTyped (under a)
typed_under [] h = tt
typed_under (w ∷ a) h = (h.0, typed_under a h.1)

mutual
  pub type_typed : (t : WrittenType) → AllTyped (type_measures t)
  type_typed (named name no_types) = ((refl, (refl, refl)), tt)
  type_typed (named name (types t ts)) = (
    (refl, (refl, refl)),
    (
      (refl, (refl, refl)),
      typed_join (under (type_measures t) ++ flat_map (λ one. plains (mark Comma) ++ one) (measures_of_types ts))
          (plains (mark RightBracket))
          (typed_join (under (type_measures t)) (flat_map (λ one. plains (mark Comma) ++ one) (measures_of_types ts))
          (typed_under (type_measures t) (type_typed t)) (rest_typed ts))
          ((refl, (refl, refl)), tt),
    ),
  )
  type_typed (reference at access.Read target region) = (
    (refl, (refl, refl)),
    (
      (refl, (refl, refl)),
      typed_join (under (type_measures target)) _ (typed_under (type_measures target) (type_typed target))
          ((refl, (refl, refl)), ((refl, (refl, refl)), ((refl, (refl, refl)), tt))),
    ),
  )
  type_typed (reference at access.Write target region) = (
    (refl, (refl, refl)),
    (
      (refl, (refl, refl)),
      typed_join (under (type_measures target)) _ (typed_under (type_measures target) (type_typed target))
          ((refl, (refl, refl)), ((refl, (refl, refl)), ((refl, (refl, refl)), tt))),
    ),
  )

  rest_typed : (ts : WrittenTypes) → AllTyped (flat_map (λ one. plains (mark Comma) ++ one) (measures_of_types ts))
  rest_typed no_types = tt
  rest_typed (types t ts) = (
    (refl, (refl, refl)),
    typed_join (under (type_measures t)) (flat_map (λ one. plains (mark Comma) ++ one) (measures_of_types ts))
        (typed_under (type_measures t) (type_typed t)) (rest_typed ts),
  )

-- ---- what is passed, word by word

depth_true : (v : Bool) → depth_test v ≡ None → v ≡ true
depth_true true e = refl
depth_true false e = absurd cc

depth_false : (v : Bool) (k : Excess) → depth_test v ≡ Some k → (v ≡ false) × (k ≡ of_depth)
depth_false true k e = absurd cc
depth_false false k e = (refl, let same : k ≡ of_depth = cc in same)

-- of a depth nothing else is passed
pub deep_what : (b : Bounds) (d : ℕ) (what : Excess) (us : List Token) (ws : Measures) → PassBehind (depths b d).of what us ws →
    what ≡ of_depth
deep_what b d what us [] h = absurd h
deep_what b d what [] (w ∷ ws) h = (depth_false (nat_le w.depth d) what h).1
deep_what b d what (u ∷ us) (w ∷ ws) h = deep_what b d what us ws h.1

module _ (b : Bounds) (n : ℕ) where
  -- a word of a type, where so many nodes stand up to it and so many words before it
  abbrev with_nodes : ℕ → ℕ → Measured → Measured
  with_nodes k j w = record
      { word = w.word; level = w.level; depth = w.depth; nodes = k; bytes = w.bytes; before = j }

  of_typed : (w : Measured) (k j : ℕ) → Typed w →
      passed_by b n (with_nodes k j w) ≡ tests j true (nat_le w.depth b.depth) (nat_le k b.nodes) true
  of_typed w k j h =
      ap (λ v. tests j v (nat_le w.depth b.depth) (nat_le k b.nodes) (nat_le w.bytes b.bytes))
      (ap (λ l. nat_le l n) h.0 ∙ le-leb 0 n (omega arith))
      ∙ ap (λ v. tests j true (nat_le w.depth b.depth) (nat_le k b.nodes) v)
      (ap (λ l. nat_le l b.bytes) h.1.0 ∙ le-leb 0 b.bytes (omega arith))

  word_keeps : (w : Measured) (k j : ℕ) → Typed w → (depths b b.depth).of w ≡ None → k ≤ b.nodes →
      passed_by b n (with_nodes k j w) ≡ None
  word_keeps w k j h d few =
      of_typed w k j h ∙ ap (λ v. tests j true v (nat_le k b.nodes) true) (depth_true (nat_le w.depth b.depth) d)
      ∙ ap (λ v. tests j true true v true) (le-leb k b.nodes few)

  word_deep : (w : Measured) (k j : ℕ) (what : Excess) → Typed w → (depths b b.depth).of w ≡ Some what →
      passed_by b n (with_nodes k j w) ≡ Some what
  word_deep w k j what h d =
      let e = depth_false (nat_le w.depth b.depth) what d in
      of_typed w k j h ∙ ap (λ v. tests j true v (nat_le k b.nodes) true) e.0 ∙ ap (λ l. Some l) (sym e.1)

  word_many : (w : Measured) (k j : ℕ) → Typed w → (depths b b.depth).of w ≡ None → b.nodes < k →
      passed_by b n (with_nodes k j w) ≡ Some (of_nodes j)
  word_many w k j h d many =
      of_typed w k j h ∙ ap (λ v. tests j true v (nat_le k b.nodes) true) (depth_true (nat_le w.depth b.depth) d)
      ∙ ap (λ v. tests j true true v true) (lt-leb k b.nodes many)

  -- a token weighs what its word does
  weighs : (w : Measured) (t : Token) → t.what ≡ w.word.what → Typed w → weight t.what ≡ w.nodes
  weighs w t e h = ap weight e ∙ sym h.1.1

  -- ---- over words

  pub counted_keeps : (seen j : ℕ) (ws : Measures) (us : List Token) → AreMeasured ws us → AllTyped ws →
      Keep (depths b b.depth).of ws → seen + nodes_in us ≤ b.nodes → Keep (passed_by b n) (counted seen j ws)
  counted_keeps seen j [] us are typed h few = tt
  counted_keeps seen j (w ∷ ws) [] are typed h few = absurd are
  counted_keeps seen j (w ∷ ws) (u ∷ us) are typed h few =
      let one = weighs w u are.0.0 typed.0 in (
        word_keeps w (seen + w.nodes) j typed.0 h.0 (omega (arith, few, one)),
        counted_keeps (seen + w.nodes) (suc j) ws us are.1 typed.1 h.1 (omega (arith, few, one)),
      )

  pub counted_over : (seen j : ℕ) (us rest : List Token) (ws : Measures) → AreMeasured ws (us ++ rest) → AllTyped ws →
      KeepOver (depths b b.depth).of us ws → seen + nodes_in us ≤ b.nodes →
      KeepOver (passed_by b n) us (counted seen j ws)
  counted_over seen j [] rest ws are typed h few = tt
  counted_over seen j (u ∷ us) rest [] are typed h few = absurd are
  counted_over seen j (u ∷ us) rest (w ∷ ws) are typed h few =
      let one = weighs w u are.0.0 typed.0 in (
        word_keeps w (seen + w.nodes) j typed.0 h.0 (omega (arith, few, one)),
        counted_over (seen + w.nodes) (suc j) us rest ws are.1 typed.1 h.1 (omega (arith, few, one)),
      )

  pub counted_deep : (what : Excess) (seen j : ℕ) (us : List Token) (last : Token) (rest : List Token) (ws : Measures)
      → AreMeasured ws (us ++ last ∷ rest) → AllTyped ws → PassBehind (depths b b.depth).of what us ws →
      seen + nodes_in us ≤ b.nodes → PassBehind (passed_by b n) what us (counted seen j ws)
  counted_deep what seen j us last rest [] are typed h few = absurd h
  counted_deep what seen j [] last rest (w ∷ ws) are typed h few = word_deep w (seen + w.nodes) j what typed.0 h
  counted_deep what seen j (u ∷ us) last rest (w ∷ ws) are typed h few =
      let one = weighs w u are.0.0 typed.0 in (
        word_keeps w (seen + w.nodes) j typed.0 h.0 (omega (arith, few, one)),
        counted_deep what (seen + w.nodes) (suc j) us last rest ws are.1 typed.1 h.1 (omega (arith, few, one)),
      )

  -- where the nodes pass their limit
  pub record Many (seen j : ℕ) (us : List Token) (ws : Measures) : Type 0 where
    pub front : List Token
    pub last : Token
    pub back : List Token
    pub same : us ≡ front ++ last ∷ back
    pub at : ℕ
    pub size : length front + j ≡ at
    pub passes : PassBehind (passed_by b n) (of_nodes at) front (counted seen j ws)

  many_by : (seen j : ℕ) (w : Measured) (ws : Measures) (u : Token) (us : List Token) → Typed w →
      (depths b b.depth).of w ≡ None → (seen + w.nodes ≤ b.nodes → Many (seen + w.nodes) (suc j) us ws) → (v : Bool) →
      nat_le (seen + w.nodes) b.nodes ≡ v → Many seen j (u ∷ us) (w ∷ ws)
  many_by seen j w ws u us typed none on true e =
      let few = leb-true (seen + w.nodes) b.nodes e in
      let m = on few in
      let size = m.size in
      record {
        front = u ∷ m.front;
        last = m.last;
        back = m.back;
        same = ap (λ ts. u ∷ ts) m.same;
        at = m.at;
        size = omega (arith, size);
        passes = (word_keeps w (seen + w.nodes) j typed none few, m.passes);
      }
  many_by seen j w ws u us typed none on false e = record {
    front = [];
    last = u;
    back = us;
    same = refl;
    at = j;
    size = omega arith;
    passes = word_many w (seen + w.nodes) j typed none (leb-false (seen + w.nodes) b.nodes e);
  }

  pub counted_many : (seen j : ℕ) (us rest : List Token) (ws : Measures) → AreMeasured ws (us ++ rest) → AllTyped ws →
      KeepOver (depths b b.depth).of us ws → seen ≤ b.nodes → b.nodes < seen + nodes_in us → Many seen j us ws
  counted_many seen j [] rest ws are typed h few many = absurd (let wrong : ⊥ = omega (arith, few, many) in wrong)
  counted_many seen j (u ∷ us) rest [] are typed h few many = absurd are
  counted_many seen j (u ∷ us) rest (w ∷ ws) are typed h few many =
      let one = weighs w u are.0.0 typed.0 in
      many_by seen j w ws u us typed.0 h.0
      (λ small. counted_many (seen + w.nodes) (suc j) us rest ws are.1 typed.1 h.1 small (omega (arith, many, one)))
      (nat_le (seen + w.nodes) b.nodes) refl

pub pass_over : (p : Passes) (what : Excess) (us : List Token) (ws : Measures) → PassBehind p what us ws →
    KeepOver p us ws
pass_over p what [] ws h = tt
pass_over p what (u ∷ us) [] h = absurd h
pass_over p what (u ∷ us) (w ∷ ws) h = (h.0, pass_over p what us ws h.1)

pub counted_are : (seen j : ℕ) (ws : Measures) (us : List Token) → AreMeasured ws us → AreMeasured (counted seen j ws) us
counted_are seen j [] us h = h
counted_are seen j (w ∷ ws) [] h = h
counted_are seen j (w ∷ ws) (u ∷ us) h = (h.0, counted_are (seen + w.nodes) (suc j) ws us h.1)

pub counted_agree : (us : List Token) (s t i j : ℕ) (a c : Measures) → s ≡ t → i ≡ j → Agree us a c →
    Agree us (counted s i a) (counted t j c)
counted_agree [] s t i j a c e f h = tt
counted_agree (u ∷ us) s t i j [] c e f h = absurd h
counted_agree (u ∷ us) s t i j (w ∷ a) [] e f h = absurd h
counted_agree (u ∷ us) s t i j (w ∷ a) (v ∷ c) e f h =
    let sum : s + w.nodes ≡ t + v.nodes = let n = h.0.1.1.0 in omega (arith, e, n) in (
      (h.0.0, (h.0.1.0, (sum, (h.0.1.1.1.0, f)))),
      counted_agree us (s + w.nodes) (t + v.nodes) (suc i) (suc j) a c sum
          (ap suc f) h.1,
    )

-- ---- the nodes before a place

pub take_of : (front back : List Token) → take (length front) (front ++ back) ≡ front
take_of [] [] = refl
take_of [] (t ∷ ts) = refl
take_of (t ∷ front) back = ap (λ ts. t ∷ ts) (take_of front back)

pub nodes_front : (front back : List Token) (left : ℕ) → length back ≡ left →
    nodes_before left (front ++ back) ≡ nodes_in front
nodes_front front back left e =
    let l = Rattle.std.proofs.Common.length-append front back in
    let n : length (front ++ back) - left ≡ length front = omega (arith, l, e) in
    ap (λ k. nodes_in (take k (front ++ back))) n ∙ ap nodes_in (take_of front back)

pub nodes_more : (k : ℕ) (front back : List Token) → length front ≤ k → nodes_in front ≤ nodes_in (take k (front ++ back))
nodes_more k [] back h = omega arith
nodes_more zero (t ∷ front) back h = absurd (let wrong : ⊥ = omega (arith, h) in wrong)
nodes_more (suc k) (t ∷ front) back h = let m = nodes_more k front back (omega (arith, h)) in omega (arith, m)
