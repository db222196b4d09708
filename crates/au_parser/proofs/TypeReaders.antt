-- What is told of the reader of types.
use Rattle.std.proofs.Common.{◌≡◌, ℕ, zero, suc, ◌+◌, ◌-◌, ◌≤◌, ◌<◌, Bool, true, false, List, [], ◌∷◌, ◌++◌}
use Rattle.std.proofs.Common.{length, take, nat_le, Ok, Err, refl, sym, ap, ◌∙◌, subst, arith, inl, inr, cond}
use Rattle.std.proofs.Common.{length-append, append_assoc}
use Rattle.std.proofs.lemmas.Bool.{leb-true, leb-false}
use Rattle.std.proofs.lemmas.List.{append-nil}
use Rattle.au_base.specs.declared.limits.Limit.{Limit}
use Rattle.au_base.specs.declared.tokens.Token.{Token}
use Rattle.au_syntax.specs.Types.{WrittenType}
use Rattle.au_read_expressions.specs.declared.faults.Fault.{Fault}
use Rattle.au_read_expressions.specs.declared.faults.Fault.TheVariants.{Syntax, Passed}
use Rattle.au_read_expressions.specs.Bounds.{Bounds, nodes_limit}
use Rattle.au_read_expressions.specs.Reading.{Read}
use Rattle.au_read_expressions.specs.TypeReading.{type_within, nodes_in, nodes_before, left_at, too_many}
use Rattle.au_read_expressions.specs.TypeReading.{nodes_here, judged, type_at}
use Rattle.au_read_expressions.specs.TypeStops.{begun}
use Rattle.au_parser.specs.Measures.{type_measures, written}
use Rattle.au_parser.specs.Passing.{KeepOver, of_depth, of_nodes, PassBehind}
use Rattle.au_parser.proofs.Told.{Passing, Kind, Is, Example, Whole, Begun, Stopped, Tells, Past, On}
use Rattle.au_parser.proofs.Told.{Alike, Agrees, Honest, fault_of, tells_past, keep_over, agrees_fault}
use Rattle.au_parser.proofs.Levels.{passing}
use Rattle.au_parser.proofs.TypeDepths.{depths, part_kind, part_example, within_honest}
use Rattle.au_parser.proofs.TypeCounts.{type_typed, counted_keeps, counted_over, counted_deep}
use Rattle.au_parser.proofs.TypeCounts.{deep_what, counted_many, pass_over, counted_are, counted_agree}
use Rattle.au_parser.proofs.TypeCounts.{nodes_front, nodes_more}
use Rattle.au_parser.specs.TypeFronts.{NodesOf}
use Rattle.au_parser.proofs.TypeReach.{read_far, whole_nodes, begun_nodes, here_nodes}

abbrev pub type_kind : Kind WrittenType
type_kind = record { words = written; good = λ t. true }

pub type_is : (t : WrittenType) (us : List Token) → Is part_kind t us → Is type_kind t us
type_is t us h = record { words = counted_are 0 0 (type_measures t) us h.words; good = refl }

pub type_example : Example type_kind
type_example = record {
  tree = part_example.tree;
  tokens = part_example.tokens;
  is = type_is part_example.tree part_example.tokens part_example.is;
}

-- ---- the count of nodes

take_front : (n : ℕ) (p b : List Token) → n ≤ length p → take n (p ++ b) ≡ take n p
take_front zero [] b h = refl
take_front zero (t ∷ p) b h = refl
take_front (suc n) [] b h = absurd (let wrong : ⊥ = omega (arith, h) in wrong)
take_front (suc n) (t ∷ p) b h = ap (λ ts. t ∷ ts) (take_front n p b (omega (arith, h)))

nodes_to : (p b : List Token) (left m : ℕ) → left ≡ m + length b → left ≤ length (p ++ b) →
    nodes_before left (p ++ b) ≡ nodes_in (take (length p - m) p)
nodes_to p b left m e h =
    let l = length-append p b in
    let k : length (p ++ b) - left ≡ length p - m = omega (arith, l, e, h) in
    ap (λ n. nodes_in (take n (p ++ b))) k ∙ ap nodes_in (take_front (length p - m) p b (omega arith))

nodes_same : (p b c : List Token) (left other m : ℕ) → left ≡ m + length b → other ≡ m + length c →
    left ≤ length (p ++ b) → nodes_before left (p ++ b) ≡ nodes_before other (p ++ c)
nodes_same p b c left other m e d h =
    let lb = length-append p b in let lc = length-append p c in
    nodes_to p b left m e h ∙ sym (nodes_to p c other m d (omega (arith, e, d, h, lb, lc)))

-- ---- the count of nodes decides

module _ (b : Bounds) (n : ℕ) where
  abbrev big : Passing
  big = passing b n

  many_stop : (ts front back rest : List Token) (t : WrittenType) → ts ≡ front ++ back → Is part_kind t (front ++ rest) →
      KeepOver (depths b b.depth).of front (type_measures t) → b.nodes < nodes_in front → (count left : ℕ) →
      NodesOf ts count → Stopped big type_kind ts (nodes_limit b count) left
  many_stop ts front back rest t same is over many count left nodes =
      let m = counted_many b n 0 0 front rest (type_measures t) is.words (type_typed t) over (omega arith)
      (omega (arith, many)) in
      let all : ts ≡ m.front ++ m.last ∷ (m.back ++ back) =
      same ∙ ap (λ us. us ++ back) m.same ∙ append_assoc m.front (m.last ∷ m.back) back in
      let size = m.size in
      record {
        front = m.front;
        last = m.last;
        back = m.back ++ back;
        same = all;
        what = of_nodes m.at;
        told = record {
          others = [];
          begun = m.front;
          same = refl;
          size = omega (arith, size);
          count = count;
          nodes = subst (λ us. NodesOf us count) all nodes;
          limit = refl;
        };
        rest = m.back ++ rest;
        tree = t;
        is = type_is t (m.front ++ m.last ∷ (m.back ++ rest)) (subst (Is part_kind t)
            (ap (λ us. us ++ rest) m.same ∙ append_assoc m.front (m.last ∷ m.back) rest) is);
        passes = m.passes;
      }

  same_nodes : (ts front back : List Token) (left : ℕ) → ts ≡ front ++ back → length back ≡ left →
      nodes_before left ts ≡ nodes_in front
  same_nodes ts front back left same size = ap (nodes_before left) same ∙ nodes_front front back left size

  ok_tells : (ts : List Token) (x : WrittenType × List Token) → type_within b b.depth ts ≡ Ok x →
      Whole (depths b b.depth) part_kind x.0 ts x.1 → (v : Bool) → nat_le (nodes_before (length x.1) ts) b.nodes ≡ v → Tells big type_kind ts
      (cond v (Ok x) (Err (Passed (nodes_limit b (nodes_before (length x.1) ts)) (length ts))))
  ok_tells ts x read h true e =
      let few = leb-true (nodes_before (length x.1) ts) b.nodes e in
      let same = same_nodes ts h.front x.1 (length x.1) h.same refl in
      record {
        front = h.front;
        same = h.same;
        is = type_is x.0 h.front h.is;
        keeps = counted_keeps b n 0 0 (type_measures x.0) h.front h.is.words (type_typed x.0) h.keeps
            (omega (arith, few, same));
      }
  ok_tells ts x read h false e =
      let many = leb-false (nodes_before (length x.1) ts) b.nodes e in
      let same = same_nodes ts h.front x.1 (length x.1) h.same refl in
      many_stop ts h.front x.1 [] x.0 h.same (subst (Is part_kind x.0) (sym (append-nil h.front)) h.is)
      (keep_over (depths b b.depth).of h.front (type_measures x.0) h.is.words h.keeps) (omega (arith, many, same))
      (nodes_before (length x.1) ts) (length ts) (subst (NodesOf ts) (sym same) (whole_nodes b b.depth ts x read h))

  syntax_tells : (ts : List Token) (left : ℕ) → type_within b b.depth ts ≡ Err (Syntax left) →
      Begun (depths b b.depth) part_kind ts left → (v : Bool) → nat_le (nodes_before left ts) b.nodes ≡ v → Tells big type_kind ts
      (cond v (Err (Syntax left)) (Err (Passed (nodes_limit b (nodes_before left ts)) (length ts))))
  syntax_tells ts left read h true e =
      let few = leb-true (nodes_before left ts) b.nodes e in
      let same = same_nodes ts h.front h.back left h.same h.size in
      record {
        front = h.front;
        back = h.back;
        same = h.same;
        size = h.size;
        rest = h.rest;
        tree = h.tree;
        is = type_is h.tree (h.front ++ h.rest) h.is;
        keeps = counted_over b n 0 0 h.front h.rest (type_measures h.tree) h.is.words (type_typed h.tree) h.keeps
            (omega (arith, few, same));
      }
  syntax_tells ts left read h false e =
      let many = leb-false (nodes_before left ts) b.nodes e in
      let same = same_nodes ts h.front h.back left h.same h.size in
      many_stop ts h.front h.back h.rest h.tree h.same h.is h.keeps (omega (arith, many, same))
      (nodes_before left ts) (length ts) (subst (NodesOf ts) (sym same) (begun_nodes b b.depth ts left read h))

  -- where the depth passes its limit, and the nodes theirs before it
  here_tells : (ts : List Token) (l : Limit) (left : ℕ) (h : Stopped (depths b b.depth) part_kind ts l left) →
      b.nodes < nodes_in h.front → (v : Bool) → nat_le (nodes_here b ts) b.nodes ≡ v → Tells big type_kind ts
      (cond v (Err (Passed l left)) (Err (Passed (nodes_limit b (nodes_here b ts)) (length ts))))
  here_tells ts l left h many true e =
      let few = leb-true (nodes_here b ts) b.nodes e in
      let far = subst (λ us. left_at (type_within b (length us) us) ≤ length (h.last ∷ h.back)) (sym h.same)
      (read_far b h.tree h.front (h.last ∷ h.rest) (h.last ∷ h.back) h.is) in
      let size = ap length h.same ∙ length-append h.front (h.last ∷ h.back) in
      let k : ℕ = length ts - left_at (type_within b (length ts) ts) in
      let more = subst (λ us. nodes_in h.front ≤ nodes_in (take k us)) (sym h.same)
      (nodes_more k h.front (h.last ∷ h.back) (omega (arith, far, size))) in
      absurd (let wrong : ⊥ = omega (arith, few, many, more) in wrong)
  here_tells ts l left h many false e =
      many_stop ts h.front (h.last ∷ h.back) (h.last ∷ h.rest) h.tree h.same h.is
      (pass_over (depths b b.depth).of h.what h.front (type_measures h.tree) h.passes) many (nodes_here b ts) (length ts)
      (here_nodes b ts)

  passed_tells : (ts : List Token) (l : Limit) (left : ℕ) → Stopped (depths b b.depth) part_kind ts l left →
      (v : Bool) → nat_le (nodes_before left ts) b.nodes ≡ v → Tells big type_kind ts
      (cond v (Err (Passed l left)) (too_many b (nodes_here b ts) ts (Err (Passed l left))))
  passed_tells ts l left h true e =
      let few = leb-true (nodes_before left ts) b.nodes e in
      let same = same_nodes ts h.front (h.last ∷ h.back) left h.same (sym h.told.1) in
      record {
        front = h.front;
        last = h.last;
        back = h.back;
        same = h.same;
        what = of_depth;
        told = h.told.0;
        rest = h.rest;
        tree = h.tree;
        is = type_is h.tree (h.front ++ h.last ∷ h.rest) h.is;
        passes = counted_deep b n of_depth 0 0 h.front h.last h.rest (type_measures h.tree) h.is.words (type_typed h.tree)
            (subst (λ k. PassBehind (depths b b.depth).of k h.front (type_measures h.tree))
            (deep_what b b.depth h.what h.front (type_measures h.tree) h.passes) h.passes) (omega (arith, few, same));
      }
  passed_tells ts l left h false e =
      let many = leb-false (nodes_before left ts) b.nodes e in
      let same = same_nodes ts h.front (h.last ∷ h.back) left h.same (sym h.told.1) in
      here_tells ts l left h (omega (arith, many, same)) (nat_le (nodes_here b ts) b.nodes) refl

  judged_tells : (ts : List Token) (r : Read WrittenType) → type_within b b.depth ts ≡ r →
      Tells (depths b b.depth) part_kind ts r → Tells big type_kind ts (judged b ts r)
  judged_tells ts (Ok x) read h = ok_tells ts x read h (nat_le (nodes_before (length x.1) ts) b.nodes) refl
  judged_tells ts (Err (Syntax left)) read h = syntax_tells ts left read h (nat_le (nodes_before left ts) b.nodes) refl
  judged_tells ts (Err (Passed l left)) read h = passed_tells ts l left h (nat_le (nodes_before left ts) b.nodes) refl

-- ---- readings beside each other

module _ (b : Bounds) where
  -- where a limit may be passed in place of what is read
  maybe_passed : (c d : List Token) (l : Limit) (left : ℕ) (r s : Read WrittenType) → Past (length c) r → (v : Bool) →
      Alike c d (cond v r (fault_of (Passed l left))) s
  maybe_passed c d l left (Ok x) s h true = inl h
  maybe_passed c d l left (Err (Syntax n)) s h true = inl h
  maybe_passed c d l left (Err (Passed k n)) s h true = tt
  maybe_passed c d l left r s h false = tt

  both_passed : (c d : List Token) (l k : Limit) (m n : ℕ) (r s : Read WrittenType) → Alike c d r s →
      (v u : Bool) → v ≡ u →
      Alike c d (cond v r (fault_of (Passed l m))) (cond u s (fault_of (Passed k n)))
  both_passed c d l k m n r s h true true e = h
  both_passed c d l k m n r s h false u e = tt
  both_passed c d l k m n r s h true false e = absurd cc

  judged_ok : (p c d : List Token) (x : WrittenType × List Token) (s : Read WrittenType) → length x.1 ≤ length
      (p ++ c) →
      On c d x.0 x.1 s → Alike c d (judged b (p ++ c) (Ok x)) (judged b (p ++ d) s)
  judged_ok p c d x s short w =
      subst (λ r. Alike c d (judged b (p ++ c) (Ok x)) (judged b (p ++ d) r)) (sym w.there) (
      both_passed c d (nodes_limit b (nodes_before (length x.1) (p ++ c)))
      (nodes_limit b (nodes_before (length (w.between ++ d)) (p ++ d))) (length (p ++ c)) (length (p ++ d))
      (Ok x) (Ok (x.0, w.between ++ d)) (inr (record { between = w.between; same = w.same; there = refl }))
      (nat_le (nodes_before (length x.1) (p ++ c)) b.nodes)
      (nat_le (nodes_before (length (w.between ++ d)) (p ++ d)) b.nodes)
      (ap (λ n. nat_le n b.nodes) (nodes_same p c d (length x.1) (length (w.between ++ d)) (length w.between)
      (ap length w.same ∙ length-append w.between c) (length-append w.between d) short)))

  judged_syntax : (p c d : List Token) (left k : ℕ) (s : Read WrittenType) → left ≤ length (p ++ c) → left ≡ k
      + length c →
      s ≡ Err (Syntax (k + length d)) → Alike c d (judged b (p ++ c) (Err (Syntax left))) (judged b (p ++ d) s)
  judged_syntax p c d left k s short e there =
      subst (λ r. Alike c d (judged b (p ++ c) (Err (Syntax left))) (judged b (p ++ d) r)) (sym there) (
      both_passed c d (nodes_limit b (nodes_before left (p ++ c)))
      (nodes_limit b (nodes_before (k + length d) (p ++ d)))
      (length (p ++ c)) (length (p ++ d)) (Err (Syntax left)) (Err (Syntax (k + length d))) (inr (k, e, refl))
      (nat_le (nodes_before left (p ++ c)) b.nodes) (nat_le (nodes_before (k + length d) (p ++ d)) b.nodes)
      (ap (λ n. nat_le n b.nodes) (nodes_same p c d left (k + length d) k e refl short)))

  passed_by : (c d : List Token) (l k : Limit) (m n : ℕ) (s : Read WrittenType) (v u : Bool) →
      Alike c d (cond v (Err (Passed l m)) (cond u (Err (Passed l m)) (fault_of (Passed k n)))) s
  passed_by c d l k m n s true u = tt
  passed_by c d l k m n s false true = tt
  passed_by c d l k m n s false false = tt

  judged_alike : (p c d : List Token) (r s : Read WrittenType) → Past (length (p ++ c)) r → Alike c d r s →
      Alike c d (judged b (p ++ c) r) (judged b (p ++ d) s)
  judged_alike p c d (Ok x) s short h =
      elim h [
        | inl past ↦ maybe_passed c d (nodes_limit b (nodes_before (length x.1) (p ++ c))) (length (p ++ c)) (Ok x)
            (judged b (p ++ d) s) past (nat_le (nodes_before (length x.1) (p ++ c)) b.nodes)
        | inr w ↦ judged_ok p c d x s short w
      ]
  judged_alike p c d (Err (Syntax left)) s short h =
      elim h [
        | inl past ↦ maybe_passed c d (nodes_limit b (nodes_before left (p ++ c))) (length (p ++ c)) (Err (Syntax left))
            (judged b (p ++ d) s) past (nat_le (nodes_before left (p ++ c)) b.nodes)
        | inr w ↦ judged_syntax p c d left w.0 s short w.1 w.2
      ]
  judged_alike p c d (Err (Passed l left)) s short h =
      passed_by c d l (nodes_limit b (nodes_here b (p ++ c))) left (length (p ++ c)) (judged b (p ++ d) s)
      (nat_le (nodes_before left (p ++ c)) b.nodes) (nat_le (nodes_here b (p ++ c)) b.nodes)

  -- ---- what is known of limits

  either_agrees : (p c : List Token) (r s : Read WrittenType) (f g : Fault) (v u : Bool) → Agrees type_kind p c r s →
      Agrees type_kind p c (cond v r (fault_of f)) (cond u s (fault_of g))
  either_agrees p c r s f g true true h = h
  either_agrees p c r s f g true false h = agrees_fault type_kind p c g r
  either_agrees p c r s f g false u h = tt

  fault_agrees : (p c : List Token) (r : Read WrittenType) (f : Fault) (ts : List Token) →
      Agrees type_kind p c r (judged b ts (Err f))
  fault_agrees p c r (Syntax left) ts = one (nat_le (nodes_before left ts) b.nodes)
    where
      one : (v : Bool) → Agrees type_kind p c r (cond v (Err (Syntax left))
          (fault_of (Passed (nodes_limit b (nodes_before left ts)) (length ts))))
      one true = agrees_fault type_kind p c (Syntax left) r
      one false = agrees_fault type_kind p c (Passed (nodes_limit b (nodes_before left ts)) (length ts)) r
  fault_agrees p c r (Passed l left) ts =
      one (nat_le (nodes_before left ts) b.nodes) (nat_le (nodes_here b ts) b.nodes)
    where
      one : (v u : Bool) → Agrees type_kind p c r (cond v (Err (Passed l left))
          (cond u (Err (Passed l left)) (fault_of (Passed (nodes_limit b (nodes_here b ts)) (length ts)))))
      one true u = agrees_fault type_kind p c (Passed l left) r
      one false true = agrees_fault type_kind p c (Passed l left) r
      one false false = agrees_fault type_kind p c (Passed (nodes_limit b (nodes_here b ts)) (length ts)) r

  from_fault : (p c : List Token) (f : Fault) (ts : List Token) (s : Read WrittenType) →
      Agrees type_kind p c (judged b ts (Err f)) s
  from_fault p c (Syntax left) ts s = one (nat_le (nodes_before left ts) b.nodes)
    where
      one : (v : Bool) → Agrees type_kind p c (cond v (Err (Syntax left))
          (fault_of (Passed (nodes_limit b (nodes_before left ts)) (length ts)))) s
      one true = tt
      one false = tt
  from_fault p c (Passed l left) ts s =
      one (nat_le (nodes_before left ts) b.nodes) (nat_le (nodes_here b ts) b.nodes)
    where
      one : (v u : Bool) → Agrees type_kind p c (cond v (Err (Passed l left))
          (cond u (Err (Passed l left)) (fault_of (Passed (nodes_limit b (nodes_here b ts)) (length ts))))) s
      one true u = tt
      one false true = tt
      one false false = tt

  judged_agrees : (p c ts us : List Token) (r s : Read WrittenType) → Agrees part_kind p c r s →
      Agrees type_kind p c (judged b ts r) (judged b us s)
  judged_agrees p c ts us (Err f) s h = from_fault p c f ts (judged b us s)
  judged_agrees p c ts us (Ok x) (Err f) h = fault_agrees p c (judged b ts (Ok x)) f us
  judged_agrees p c ts us (Ok x) (Ok y) h =
      either_agrees p c (Ok x) (Ok y) (Passed (nodes_limit b (nodes_before (length x.1) ts)) (length ts))
      (Passed (nodes_limit b (nodes_before (length y.1) us)) (length us))
      (nat_le (nodes_before (length x.1) ts) b.nodes) (nat_le (nodes_before (length y.1) us) b.nodes)
      (λ short. counted_agree p 0 0 0 0 (type_measures x.0) (type_measures y.0) refl refl (h short))

  pub type_honest : (n : ℕ) → Honest (passing b n) type_kind (type_at b)
  unfolding type_at
  type_honest n =
      let h = within_honest b b.depth in
      record {
        example = type_example;
        tells = λ ts. judged_tells b n ts (type_within b b.depth ts) refl (h.tells ts);
        alike = λ p c d. judged_alike p c d (type_within b b.depth (p ++ c)) (type_within b b.depth (p ++ d))
            (tells_past (depths b b.depth) part_kind (p ++ c) (type_within b b.depth (p ++ c)) (h.tells (p ++ c)))
            (h.alike p c d);
        agree = λ p c d. judged_agrees p c (p ++ c) (p ++ d) (type_within b b.depth (p ++ c))
            (type_within b b.depth (p ++ d)) (h.agree p c d);
      }
