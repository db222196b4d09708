-- What a file passes first is one limit at one token, whatever stands behind.
use Rattle.std.proofs.Common.{◌≡◌, ℕ, zero, suc, ◌+◌, ◌-◌, ◌<◌, nat_le, List, [], ◌∷◌, ◌++◌, length, ◌⊎◌}
use Rattle.std.proofs.Common.{drop, length-append, take, Option, Some, None, Ok, Err, refl, sym, ap, ◌∙◌}
use Rattle.std.proofs.Common.{subst, arith, inl, inr, append_assoc}
use Rattle.std.proofs.lemmas.List.{append-nil}
use Rattle.std.specs.Prelude.{IsTrue}
use Rattle.au_base.specs.declared.limits.Limit.{Limit}
use Rattle.au_base.specs.declared.tokens.Token.{Token}
use Rattle.au_syntax.specs.Forms.{formed_module}
use Rattle.au_syntax.specs.Plain.{PlainModule}
use Rattle.au_syntax.specs.Words.{Spells, AreWords, type_words}
use Rattle.au_read_expressions.specs.declared.faults.Fault.TheVariants.{Syntax, Passed}
use Rattle.au_read_expressions.specs.Bounds.{Bounds, nodes_limit}
use Rattle.au_read_expressions.specs.Reading.{Read}
use Rattle.au_parser.specs.ModuleReading.{file_at}
use Rattle.au_parser.proofs.FileForm.{file_sound, file_found, ModuleFits}
use Rattle.au_parser.proofs.Lower.{lower}
use Rattle.au_parser.specs.Measures.{Measured, Measures, measures}
use Rattle.au_parser.specs.Passing.{passed_by, Passes, Keep, KeepOver, PassBehind, SameMeasure, Agree, Excess}
use Rattle.au_parser.specs.Passing.{of_nesting, of_depth, of_nodes, of_bytes, IsTold, PassesAt, PassesNone}
use Rattle.au_parser.specs.Passing.{KeepsLimits}
use Rattle.au_parser.proofs.Told.{Tells, Agrees, fault_of}
use Rattle.au_parser.proofs.Levels.{tests, passing}
use Rattle.au_parser.proofs.Files.{module_kind, file_honest}
use Rattle.au_parser.proofs.Places.{order_of, before_place, fewer, syntax_place, limit_place, limits_kept}
use Rattle.au_parser.proofs.Places.{passes_before}
use Rattle.au_parser.specs.TypeFronts.{BeginsType, NodesOf}
use Rattle.au_read_expressions.specs.TypeReading.{nodes_in}
use Rattle.au_parser.proofs.Keeping.{bounds_of, first_keeps, none_passed, second_keeps}

-- ---- words that measure the same

same_passes : (b : Bounds) (n : ℕ) (w v : Measured) → SameMeasure w v → passed_by b n w ≡ passed_by b n v
same_passes b n w v h =
    ap (λ k. tests w.before (nat_le k n) (nat_le w.depth b.depth) (nat_le w.nodes b.nodes) (nat_le w.bytes b.bytes)) h.0
    ∙ ap (λ k. tests w.before (nat_le v.level n) (nat_le k b.depth) (nat_le w.nodes b.nodes) (nat_le w.bytes b.bytes))
    h.1.0
    ∙ ap (λ k. tests w.before (nat_le v.level n) (nat_le v.depth b.depth) (nat_le k b.nodes) (nat_le w.bytes b.bytes))
    h.1.1.0
    ∙ ap (λ k. tests w.before (nat_le v.level n) (nat_le v.depth b.depth) (nat_le v.nodes b.nodes) (nat_le k b.bytes))
    h.1.1.1.0
    ∙ ap (λ k. tests k (nat_le v.level n) (nat_le v.depth b.depth) (nat_le v.nodes b.nodes) (nat_le v.bytes b.bytes))
    h.1.1.1.1

none_some : (k : Excess) (o : Option Excess) → o ≡ None → o ≡ Some k → ⊥
none_some k o e f = cc

module _ (b : Bounds) (n : ℕ) where
  abbrev p : Passes
  p = passed_by b n

  agree_pass : (what : Excess) (us : List Token) (t : Token) (more : List Token) (a c : Measures) →
      Agree (us ++ t ∷ more) a c → PassBehind p what us a → PassBehind p what us c
  agree_pass what us t more [] c h k = absurd k
  agree_pass what [] t more (w ∷ a) [] h k = absurd h
  agree_pass what (u ∷ us) t more (w ∷ a) [] h k = absurd h
  agree_pass what [] t more (w ∷ a) (v ∷ c) h k = sym (same_passes b n w v h.0) ∙ k
  agree_pass what (u ∷ us) t more (w ∷ a) (v ∷ c) h k =
      (sym (same_passes b n w v h.0) ∙ k.0, agree_pass what us t more a c h.1 k.1)

  not_kept : (what : Excess) (us : List Token) (t : Token) (more : List Token) (a : Measures) →
      PassBehind p what us a → KeepOver p (us ++ t ∷ more) a → ⊥
  not_kept what us t more [] k h = k
  not_kept what [] t more (w ∷ a) k h = none_some what (p w) h.0 k
  not_kept what (u ∷ us) t more (w ∷ a) k h = not_kept what us t more a k.1 h.1

  not_all : (what : Excess) (us : List Token) (a : Measures) → PassBehind p what us a → Keep p a → ⊥
  not_all what us [] k h = k
  not_all what [] (w ∷ a) k h = none_some what (p w) h.0 k
  not_all what (u ∷ us) (w ∷ a) k h = not_all what us a k.1 h.1

  not_later : (what other : Excess) (us : List Token) (t : Token) (more : List Token) (a : Measures) →
      PassBehind p what us a → PassBehind p other (us ++ t ∷ more) a → ⊥
  not_later what other us t more [] k h = k
  not_later what other [] t more (w ∷ a) k h = none_some what (p w) h.0 k
  not_later what other (u ∷ us) t more (w ∷ a) k h = not_later what other us t more a k.1 h.1

  same_kind : (what other : Excess) (us : List Token) (a : Measures) → PassBehind p what us a →
      PassBehind p other us a → what ≡ other
  same_kind what other us [] k h = absurd k
  same_kind what other [] (w ∷ a) k h = let e : what ≡ other = cc in e
  same_kind what other (u ∷ us) (w ∷ a) k h = same_kind what other us a k.1 h.1

-- ---- files that begin with the same tokens

read_whole : (b : Bounds) (m : PlainModule) (ts : List Token) → IsTrue (formed_module m) → Spells m ts → ModuleFits b m →
    file_at b ts ≡ Ok (m, [])
read_whole b m ts formed spelled fit =
    elim (file_found b (lower b) ts m spelled formed) [ inl e ↦ e | inr q ↦ absurd (none_passed b m q.0 fit q.3) ]

-- two files that begin with the same tokens know the same with these
pub files_agree : (m u : PlainModule) (p c d : List Token) → IsTrue (formed_module m) → Spells m (p ++ c) →
    IsTrue (formed_module u) → Spells u (p ++ d) → Agree p (measures m) (measures u)
files_agree m u p c d formed spelled formed_too spelled_too =
    let b : Bounds = bounds_of m u in
    let one = read_whole b m (p ++ c) formed spelled (first_keeps m u) in
    let two = read_whole b u (p ++ d) formed_too spelled_too (second_keeps m u) in
    subst (λ r. Agrees module_kind p c r (Ok (u, []))) one
    (subst (λ r. Agrees module_kind p c (file_at b (p ++ c)) r) two ((file_honest b).agree p c d)) (omega arith)

-- ---- what is told of it

-- what two ends of the same size are
same_end : (a c u v : List Token) → a ++ u ≡ c ++ v → length u ≡ length v → u ≡ v
same_end [] [] u v e size = e
same_end [] (y ∷ c) u v e size =
    let l = ap length e in let n = length-append c v in absurd (let wrong : ⊥ = omega (arith, l, n, size) in wrong)
same_end (x ∷ a) [] u v e size =
    let l = ap length e in let n = length-append a u in absurd (let wrong : ⊥ = omega (arith, l, n, size) in wrong)
same_end (x ∷ a) (y ∷ c) u v e size = same_end a c u v (let others : a ++ u ≡ c ++ v = cc in others) size

-- fewer tokens begin a type too
begins_less : (front more : List Token) (next : Token) → BeginsType (front ++ next ∷ more) → BeginsType (front ++ next ∷ [])
begins_less front more next h = record {
  tree = h.tree;
  rest = more ++ h.rest;
  words = subst (AreWords (type_words h.tree))
      (append_assoc front (next ∷ more) h.rest ∙ sym (append_assoc front (next ∷ []) (more ++ h.rest))) h.words;
}

-- of two fronts of the same tokens one goes further, or they are the same
further : (ts front back other behind : List Token) → ts ≡ front ++ back → ts ≡ other ++ behind → (front ≡ other)
    ⊎ (((next : Token) × (more : List Token) × (other ≡ front ++ next ∷ more) × (back ≡ next ∷ (more ++ behind)))
    ⊎ ((next : Token) × (more : List Token) × (front ≡ other ++ next ∷ more) × (behind ≡ next ∷ (more ++ back))))
further ts [] back [] behind e f = inl refl
further ts [] back (y ∷ other) behind e f = inr (inl (y, other, refl, sym e ∙ f))
further ts (x ∷ front) back [] behind e f = inr (inr (x, front, refl, sym f ∙ e))
further [] (x ∷ front) back (y ∷ other) behind e f = absurd cc
further (t ∷ ts) (x ∷ front) back (y ∷ other) behind e f =
    let a : t ≡ x = cc in
    let c : t ≡ y = cc in
    elim (further ts front back other behind (let r : ts ≡ front ++ back = cc in r)
    (let r : ts ≡ other ++ behind = cc in r)) [
      | inl same ↦ inl (subst (λ v. v ∷ front ≡ y ∷ other) a (subst (λ v. t ∷ front ≡ v ∷ other) c
          (ap (λ us. t ∷ us) same)))
      | inr (inl p) ↦ inr (inl (
        p.0,
        p.1,
        subst (λ v. y ∷ other ≡ v ∷ front ++ p.0 ∷ p.1) (sym c ∙ a)
            (ap (λ us. y ∷ us) p.2),
        p.3,
      ))
      | inr (inr p) ↦ inr (inr (
        p.0,
        p.1,
        subst (λ v. x ∷ front ≡ v ∷ other ++ p.0 ∷ p.1) (sym a ∙ c)
            (ap (λ us. x ∷ us) p.2),
        p.3,
      ))
    ]

one_count : (ts : List Token) (m n : ℕ) → NodesOf ts m → NodesOf ts n → m ≡ n
one_count ts m n h k =
    elim (further ts h.front h.back k.front k.back h.same k.same) [
      | inl same ↦ h.nodes ∙ ap nodes_in same ∙ sym k.nodes
      | inr (inl p) ↦ absurd (h.longest p.0 (p.1 ++ k.back) p.3
          (begins_less h.front p.1 p.0 (subst BeginsType p.2 k.begins)))
      | inr (inr p) ↦ absurd (k.longest p.0 (p.1 ++ h.back) p.3
          (begins_less k.front p.1 p.0 (subst BeginsType p.2 h.begins)))
    ]

one_told : (b : Bounds) (what : Excess) (front back : List Token) (l k : Limit) → IsTold b what front back l →
    IsTold b what front back k → l ≡ k
one_told b of_nesting front back l k h g = h ∙ sym g
one_told b of_depth front back l k h g = h ∙ sym g
one_told b (of_nodes before) front back l k h g =
    let same = same_end h.others g.others h.begun g.begun (sym h.same ∙ g.same) (h.size ∙ sym g.size) in
    let count = one_count (g.begun ++ back) h.count g.count (subst (λ us. NodesOf (us ++ back) h.count) same h.nodes)
    g.nodes in
    h.limit ∙ ap (nodes_limit b) count ∙ sym g.limit
one_told b of_bytes front back l k h g = h ∙ sym g

-- ---- one limit, at one token

-- the token at a place
take_next : (i : ℕ) (ts : List Token) → i < length ts → (t : Token) × (take (i + 1) ts ≡ take i ts ++ t ∷ [])
take_next i [] h = absurd (let wrong : ⊥ = omega (arith, h) in wrong)
take_next zero (t ∷ []) h = (t, refl)
take_next zero (t ∷ u ∷ ts) h = (t, refl)
take_next (suc i) (t ∷ ts) h =
    let n = take_next i ts (omega (arith, h)) in
    let k : suc i + 1 ≡ suc (i + 1) = omega arith in
    (n.0, ap (λ m. take m (t ∷ ts)) k ∙ ap (λ us. t ∷ us) n.1)

module _ (b : Bounds) (ts : List Token) where
  -- what passes with a token before passes in every file that goes on
  passes_in : (i : ℕ) (l : Limit) (h : PassesAt b ts i l) (u : PlainModule) (front more rest : List Token) →
      IsTrue (formed_module u) → front ≡ take (i + 1) ts ++ more → Spells u (front ++ rest) →
      (t : Token) × (take (i + 1) ts ≡ take i ts ++ t ∷ [])
      × PassBehind (passed_by b b.nesting) h.what (take i ts) (measures u)
  passes_in i l h u front more rest formed same spelled =
      let n = take_next i ts h.within in
      let words = subst (Spells u) (ap (λ us. us ++ rest) same ∙ append_assoc (take (i + 1) ts) more rest) spelled in
      let agree = files_agree h.tree u (take (i + 1) ts) h.rest (more ++ rest) h.formed h.spelled formed words in (
        n.0,
        n.1,
        agree_pass b b.nesting h.what (take i ts) n.0 [] (measures h.tree) (measures u)
            (subst (λ us. Agree us (measures h.tree) (measures u)) n.1 agree) h.passes,
      )

  never_earlier : (i j : ℕ) (l other : Limit) → PassesAt b ts i l → PassesAt b ts j other → i < j → ⊥
  never_earlier i j l other h k less =
      let m = fewer (i + 1) (j + 1) ts (omega (arith, less)) in
      let d = fewer (i + 1) j ts (omega (arith, less)) in
      let w = passes_in i l h k.tree (take (j + 1) ts) m.0 k.rest k.formed m.1 k.spelled in
      not_later b b.nesting h.what k.what (take i ts) w.0 d.0 (measures k.tree) w.2
      (subst (λ us. PassBehind (passed_by b b.nesting) k.what us (measures k.tree))
      (d.1 ∙ ap (λ us. us ++ d.0) w.1 ∙ append_assoc (take i ts) (w.0 ∷ []) d.0) k.passes)

  -- with one token the same is told
  told_there : (i : ℕ) (l other : Limit) → PassesAt b ts i l → PassesAt b ts i other → l ≡ other
  told_there i l other h k =
      let w = passes_in i l h k.tree (take (i + 1) ts) [] k.rest k.formed (sym (append-nil (take (i + 1) ts)))
      k.spelled in
      let same = same_kind b b.nesting h.what k.what (take i ts) (measures k.tree) w.2 k.passes in
      one_told b k.what (take i ts) (drop i ts) l other
      (subst (λ what. IsTold b what (take i ts) (drop i ts) l) same h.told) k.told

  pub one_limit : (i j : ℕ) (l other : Limit) → PassesAt b ts i l → PassesAt b ts j other → (i ≡ j) × (l ≡ other)
  one_limit i j l other h k =
      elim (order_of i j) [
        | inr more ↦ absurd (never_earlier j i other l k h more)
        | inl up ↦ elim (order_of j i) [
          | inr more ↦ absurd (never_earlier i j l other h k more)
          | inl down ↦
              let same : i ≡ j = omega (arith, up, down) in
              (same, told_there i l other h (subst (λ n. PassesAt b ts n other) (sym same) k))
        ]
      ]

  -- tokens that pass no limit in some file pass none
  pub none_kept : (i : ℕ) (l : Limit) → PassesAt b ts i l → (place : ℕ) → KeepsLimits b (take place ts) →
      i < place → ⊥
  none_kept i l h place k less =
      let c = fewer (i + 1) place ts (omega (arith, less)) in
      let q = passes_in i l h k.tree (take place ts) c.0 k.rest k.formed c.1 k.spelled in
      not_kept b b.nesting h.what (take i ts) q.0 c.0 (measures k.tree) q.2
      (subst (λ us. KeepOver (passed_by b b.nesting) us (measures k.tree))
      (c.1 ∙ ap (λ us. us ++ c.0) q.1 ∙ append_assoc (take i ts) (q.0 ∷ []) c.0) k.keeps)

  -- what is passed first is told
  told_by : (i : ℕ) (l : Limit) → PassesAt b ts i l → (r : Read PlainModule) → file_at b ts ≡ r →
      Tells (passing b b.nesting) module_kind ts r → (left : ℕ) × (r ≡ Err (Passed l left))
  told_by i l h (Ok x) e w =
      let s = file_sound b (lower b) ts x.1 x.0 e in
      let m = h.within in
      let c = before_place (i + 1) ts (omega (arith, m)) in
      let q = passes_in i l h x.0 ts c.0 [] s.2 c.1 (subst (Spells x.0) (sym (append-nil ts)) s.1) in
      absurd (not_all b b.nesting h.what (take i ts) (measures x.0) q.2 w.keeps)
  told_by i l h (Err (Syntax left)) e w =
      let place : ℕ = length ts - left in
      let less = passes_before b ts i place l h (syntax_place b ts left e) in
      absurd (none_kept i l h place (limits_kept b ts left e) less)
  told_by i l h (Err (Passed k left)) e w =
      let g = limit_place b ts k left e in
      (left, ap (λ m. fault_of (Passed m left)) (sym (one_limit i g.0 l k h g.1).1))

  pub passed_told : (i : ℕ) (l : Limit) → PassesAt b ts i l → (left : ℕ) × (file_at b ts ≡ Err (Passed l left))
  passed_told i l h = told_by i l h (file_at b ts) refl ((file_honest b).tells ts)

-- where reading stops with a fault, no limit is passed
pub passes_none : (b : Bounds) (ts : List Token) (left : ℕ) → file_at b ts ≡ Err (Syntax left) → PassesNone b ts
passes_none b ts left e = λ l passed.
    none_kept b ts passed.0 l passed.1 (length ts - left) (limits_kept b ts left e)
    (passes_before b ts passed.0 (length ts - left) l passed.1 (syntax_place b ts left e))
