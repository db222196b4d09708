-- What leads to what by numbers: the heads that come to a body over the graph are those that it makes.
use Rattle.std.proofs.Common.{◌≡◌, ℕ, zero, suc, ◌+◌, ◌<◌, ◌⊎◌, inl, inr, List, [], ◌∷◌, Option, None, Some}
use Rattle.std.proofs.Common.{length, refl, sym, ap, ◌∙◌, subst, Contains, arith, zero-add}
use Rattle.std.specs.List.{flat_map}
use Rattle.std.specs.Option.{option_and_then, option_map}
use Rattle.std.specs.Prelude.{◌↔◌, option_to_list, slice_get}
use Rattle.std.proofs.lemmas.Option.{none-some, same_Some, slice_get_within}
use Rattle.au_graphs.specs.Cycles.{Leads, Names, directly, onward, successors}
use Rattle.au_syntax.specs.Plain.{Bytes}
use Rattle.au_types.specs.declared.types.DeclAt.{DeclAt}
use Rattle.au_instances.specs.declared.constructors.Constructor.{Constructor}
use Rattle.au_modules.specs.Programs.{ModuleParts}
use Rattle.au_names.proofs.AmongLemmas.{Among, among, among-append, among-append_left, among-append_right}
use Rattle.au_names.proofs.AmongLemmas.{among-flat_map, among-flat_map_from, contains}
use Rattle.au_imports.proofs.MentionLemmas.{among-map, among-map_from}
use Rattle.au_typing.specs.Trees.{NotedParts}
use Rattle.au_formed.specs.declared.namings.Naming.{Naming}
use Rattle.au_formed.proofs.GraphLemmas.{among_at}
use Rattle.au_caps_types.specs.declared.reached.Reaching.{Reaching}
use Rattle.au_caps_types.specs.Heads.{head_of}
use Rattle.au_caps_types.specs.Views.{IsHeadAt, IsReaching, place_of}
use Rattle.au_caps_text.specs.Spreading.{AreSpread, LeadsTo}
use Rattle.au_caps_lists.specs.Bodies.{Bodied, Home, all_bodied, sense_in}
use Rattle.au_caps.specs.Calls.{Callee, a_birth, a_function, a_method, an_instance, a_class, calls_of}
use Rattle.au_caps.specs.Keys.{key_of}
use Rattle.au_caps.specs.Making.{BodyMakes, Makes, StandsFor, born, called, class_named, class_of}
use Rattle.au_caps.specs.Making.{constrained}
use Rattle.au_caps.specs.Making.{constraints_of}
use Rattle.au_caps.specs.Making.{constructor_for, constructor_written, the_class, the_function, the_instance}
use Rattle.au_caps.specs.Making.{the_method}
use Rattle.au_caps.specs.Webs.{AreEdges, IsNumber, Node, a_body, a_callee, arcs_at, arcs_from, body_arcs}
use Rattle.au_caps.specs.Webs.{call_arcs}
use Rattle.au_caps.specs.Webs.{IsGraphOf, birth_pairs, births_from, edges, instance_arcs}
use Rattle.au_caps.specs.Webs.{method_arcs, no_edges}
use Rattle.au_caps.specs.declared.webs.Web.{Web}
use Rattle.au_caps.specs.Views.{AreLabelled, AreOnce, IsWebOf, keys_in}
use Rattle.au_caps.proofs.GrowLemmas.{IsCalled, called_arc}
use Rattle.au_caps.proofs.KeyLemmas.{same_callee}

-- ---- lists

-- what has a place is one of the items
pub there_among : {A : Type 0} (xs : List A) (i : ℕ) (x : A) → slice_get xs i ≡ Some x → Among x xs
there_among [] i x h = absurd (none-some x h)
there_among (y ∷ ys) zero x h = inl (same_Some y x h)
there_among (y ∷ ys) (suc i) x h = inr (there_among ys i x h)

-- ---- numbers

module _ (count : ℕ) (keys : List (List ℕ)) where
  -- a number is that of one node
  same_node : (a b : Node) (n : ℕ) → IsNumber count keys a n → IsNumber count keys b n → a ≡ b
  same_node (a_body i) (a_body j) n p q = ap a_body (sym p.0 ∙ q.0)
  same_node (a_body i) (a_callee d) n p q = let no : ⊥ = omega (arith, p.0, p.1, q.1) in absurd no
  same_node (a_callee c) (a_body j) n p q = let no : ⊥ = omega (arith, p.1, q.0, q.1) in absurd no
  same_node (a_callee c) (a_callee d) n p q =
      let same : p.0 ≡ q.0 = omega (arith, p.1, q.1) in
      ap a_callee
      (same_callee c d (same_Some (key_of c) (key_of d) (sym p.2 ∙ ap (slice_get keys) same ∙ q.2)))

  -- an edge is an arc, and an arc an edge
  edge_arc : (arcs : List (Node × Node)) (es : List (ℕ × ℕ)) → AreEdges count keys arcs es → (from to : ℕ)
      → Among (from, to) es
      → (a : Node) × (b : Node) × Among (a, b) arcs × IsNumber count keys a from × IsNumber count keys b to
  edge_arc arcs es no_edges from to m = absurd m
  edge_arc arcs es (edges a b others x y rest is_a is_b on) from to (inl here) = (
    a,
    b,
    inl refl,
    subst (IsNumber count keys a) (ap (λ (e : ℕ × ℕ). e.0) here) is_a,
    subst (IsNumber count keys b) (ap (λ (e : ℕ × ℕ). e.1) here) is_b,
  )
  edge_arc arcs es (edges a b others x y rest is_a is_b on) from to (inr later) =
      let r = edge_arc others rest on from to later in (r.0, r.1, inr r.2, r.3, r.4)

  arc_edge : (arcs : List (Node × Node)) (es : List (ℕ × ℕ)) → AreEdges count keys arcs es → (a b : Node)
      → Among (a, b) arcs
      → (from : ℕ) × (to : ℕ) × Among (from, to) es × IsNumber count keys a from × IsNumber count keys b to
  arc_edge arcs es no_edges a b m = absurd m
  arc_edge arcs es (edges c d others x y rest is_c is_d on) a b (inl here) = (
    x,
    y,
    inl refl,
    subst (λ (n : Node). IsNumber count keys n x) (ap (λ (p : Node × Node). p.0) here) is_c,
    subst (λ (n : Node). IsNumber count keys n y) (ap (λ (p : Node × Node). p.1) here) is_d,
  )
  arc_edge arcs es (edges c d others x y rest is_c is_d on) a b (inr later) =
      let r = arc_edge others rest on a b later in (r.0, r.1, inr r.2, r.3, r.4)

  -- where keys stand once, a node has one number
  module _ (once : (i j : ℕ) (k : List ℕ) → slice_get keys i ≡ Some k → slice_get keys j ≡ Some k → i ≡ j)
    where
      same_number : (a : Node) (n m : ℕ) → IsNumber count keys a n → IsNumber count keys a m → n ≡ m
      same_number (a_body i) n m p q = p.0 ∙ sym q.0
      same_number (a_callee c) n m p q =
          let same : p.0 ≡ q.0 = once p.0 q.0 (key_of c) p.2 q.2 in omega (arith, p.1, q.1, same)

-- ---- arcs

module _ (program : List ModuleParts) where
  -- an arc is that of a body
  body_of_arc : (start : ℕ) (bs : List Bodied) (x : Node × Node) → Among x (arcs_from program start bs)
      → (i : ℕ) × (b : Bodied) × (slice_get bs i ≡ Some b) × Among x (body_arcs program (start + i) b)
  unfolding arcs_from
  body_of_arc start [] x m = absurd m
  body_of_arc start (b ∷ bs) x m =
      by (among-append (body_arcs program start b) (arcs_from program (start + 1) bs) x m)
      (body_of_arc (start + 1) bs x)
    where
      by : Among x (body_arcs program start b) ⊎ Among x (arcs_from program (start + 1) bs)
          → (Among x (arcs_from program (start + 1) bs)
          → (i : ℕ) × (c : Bodied) × (slice_get bs i ≡ Some c) × Among x
          (body_arcs program (start + 1 + i) c))
          → (i : ℕ) × (c : Bodied) × (slice_get (b ∷ bs) i ≡ Some c) × Among x
          (body_arcs program (start + i) c)
      by (inl here) rest =
          let same : start ≡ start + 0 = omega arith in
          (0, b, refl, subst (λ n. Among x (body_arcs program n b)) same here)
      by (inr later) rest =
          let r = rest later in
          let same : start + 1 + r.0 ≡ start + suc r.0 = omega arith in
          (suc r.0, r.1, r.2, subst (λ n. Among x (body_arcs program n r.1)) same r.3)

  -- and those of a body are arcs
  arc_of_body : (start : ℕ) (bs : List Bodied) (i : ℕ) (b : Bodied) (x : Node × Node) → slice_get bs i
      ≡ Some b
      → Among x (body_arcs program (start + i) b) → Among x (arcs_from program start bs)
  unfolding arcs_from
  arc_of_body start [] i b x there m = absurd (none-some b there)
  arc_of_body start (c ∷ bs) zero b x there m =
      let same : start + 0 ≡ start = omega arith in
      among-append_left (body_arcs program start c) (arcs_from program (start + 1) bs) x
      (subst (λ (d : Bodied). Among x (body_arcs program start d)) (sym (same_Some c b there))
      (subst (λ n. Among x (body_arcs program n b)) same m))
  arc_of_body start (c ∷ bs) (suc i) b x there m =
      let same : start + suc i ≡ start + 1 + i = omega arith in
      among-append_right (body_arcs program start c) (arcs_from program (start + 1) bs) x
      (arc_of_body (start + 1) bs i b x there (subst (λ n. Among x (body_arcs program n b)) same m))

  -- the class and the constructor of an instance
  class_at : (b : Bodied) (home : Home) → b.home ≡ Some home
      → class_of program b ≡ class_named (sense_in program b) home.class
  class_at b home some = ap (option_and_then (λ (home : Home). class_named (sense_in program b) home.class))
      some

  constructor_at : (b : Bodied) (home : Home) → b.home ≡ Some home
      → constructor_for program b ≡ constructor_written (sense_in program b) home.of
  constructor_at b home some =
      ap (option_and_then (λ (home : Home). constructor_written (sense_in program b) home.of)) some

  no_class : (b : Bodied) → b.home ≡ None → class_of program b ≡ None
  no_class b none = ap (option_and_then (λ (home : Home). class_named (sense_in program b) home.class)) none

  -- what an instance leads to stands among the arcs of its method
  module _ (i : ℕ) (b : Bodied) where
    -- those of a method of an instance of a class
    in_method : (x : Node × Node) (home : Option Home) → b.home ≡ home → (class : DeclAt)
        → class_of program b ≡ Some class
        → Among x (method_arcs i b (Some class) (constructor_for program b) (constraints_of program b))
        → Among x (arcs_at program i b b.home)
    in_method x None none class is m = absurd (none-some class (sym (no_class b none) ∙ is))
    in_method x (Some home) some class is m =
        subst (λ (o : Option Home). Among x (arcs_at program i b o)) (sym some)
        (subst (λ (o : Option DeclAt). Among x (method_arcs i b o
        (constructor_written (sense_in program b) home.of)
        (constraints_of program b))) (sym is ∙ class_at b home some)
        (subst (λ (o : Option Constructor). Among x (method_arcs i b (Some class) o
        (constraints_of program b)))
        (constructor_at b home some) m))

    -- a method that a callee stands for has an arc from it
    stands_arc : (c : Callee) → StandsFor program c b → Among (a_callee c, a_body i)
        (arcs_at program i b b.home)
    stands_arc c (the_function d none) =
        subst (λ (o : Option Home). Among (a_callee (a_function b.place b.header.name.name), a_body i)
        (arcs_at program i b o)) (sym none) (inl refl)
    stands_arc c (the_method d class is) =
        in_method (a_callee (a_method class b.header.name.name), a_body i) b.home refl class is (inl refl)
    stands_arc c (the_class d class is) =
        in_method (a_callee (a_class class), a_body i) b.home refl class is (inr (inl refl))
    stands_arc c (the_instance d class one is of) =
        in_method (a_callee (an_instance class one), a_body i) b.home refl class is
        (inr (inr (subst (λ (o : Option Constructor). Among (a_callee (an_instance class one), a_body i)
        (instance_arcs i class o (constraints_of program b))) (sym of) (inl refl))))

    -- what an instance is that a callee stands for
    instance_is : (class : DeclAt) (one : Constructor) → StandsFor program (an_instance class one) b
        → (class_of program b ≡ Some class) × (constructor_for program b ≡ Some one)
    instance_is class one (the_instance d other another is of) = (is, of)

    -- a constraint of an instance has an arc to its class
    constraint_arc : (class other : DeclAt) (one : Constructor) → StandsFor program (an_instance class one) b
        → Contains (constraints_of program b) other
        → Among (a_callee (an_instance class one), a_callee (a_class other)) (arcs_at program i b b.home)
    constraint_arc class other one stands m =
        let is = instance_is class one stands in
        let arc : DeclAt → Node × Node = λ (d : DeclAt). (
          a_callee (an_instance class one),
          a_callee
              (a_class d),
        ) in
        in_method (a_callee (an_instance class one), a_callee (a_class other)) b.home refl class is.0
        (inr (inr (subst (λ (o : Option Constructor). Among
        (a_callee (an_instance class one), a_callee (a_class other))
        (instance_arcs i class o (constraints_of program b))) (sym is.1)
        (inr (among-map_from arc (constraints_of program b) other
        (among (constraints_of program b) other m))))))

-- ---- births

-- a birth among those of a call
birth_of_call : (r : Reaching) (i : ℕ) (c : Callee) (p : ℕ × ℕ) → Among p (birth_pairs r i c)
    → (at : DeclAt) × (c ≡ a_birth at) × ((l : ℕ) × (place_of r at ≡ Some l) × ((l, i) ≡ p))
birth_of_call r i (a_function place name) p none = absurd none
birth_of_call r i (a_method class name) p none = absurd none
birth_of_call r i (an_instance class one) p none = absurd none
birth_of_call r i (a_class class) p none = absurd none
birth_of_call r i (a_birth at) p m = by (place_of r at) refl m
  where
    by : (o : Option ℕ) → place_of r at ≡ o → Among p (option_to_list (option_map (λ (l : ℕ). (l, i)) o))
        → (a : DeclAt) × (a_birth at ≡ a_birth a) × ((l : ℕ) × (place_of r a ≡ Some l) × ((l, i) ≡ p))
    by None is none = absurd none
    by (Some l) is (inl same) = (at, refl, (l, is, same))
    by (Some l) is (inr none) = absurd none

module _ (program : List ModuleParts) (r : Reaching) where
  -- what is born is so in a call of a body, and its head has a place
  pub record BornBy (start : ℕ) (bs : List Bodied) (p : ℕ × ℕ) : Type 0 where
    pub i : ℕ
    pub b : Bodied
    pub at : DeclAt
    pub l : ℕ
    pub there : slice_get bs i ≡ Some b
    pub called : Among (a_birth at) (calls_of program b)
    pub place : place_of r at ≡ Some l
    pub pair : (l, start + i) ≡ p

  birth_of_body : (start : ℕ) (bs : List Bodied) (p : ℕ × ℕ) → Among p (births_from program r start bs)
      → BornBy start bs p
  unfolding births_from
  birth_of_body start [] p m = absurd m
  birth_of_body start (b ∷ bs) p m =
      by (among-append (flat_map (birth_pairs r start) (calls_of program b))
      (births_from program r (start + 1) bs) p m)
      (birth_of_body (start + 1) bs p)
    where
      by : Among p (flat_map (birth_pairs r start) (calls_of program b))
          ⊎ Among p (births_from program r (start + 1) bs)
          → (Among p (births_from program r (start + 1) bs) → BornBy (start + 1) bs p) → BornBy start
          (b ∷ bs) p
      by (inl here) rest =
          let call = among-flat_map (birth_pairs r start) (calls_of program b) p here in
          let birth = birth_of_call r start call.0 p call.2 in
          let none : start + 0 ≡ start = omega arith in
          record {
            i = 0;
            b = b;
            at = birth.0;
            l = birth.2.0;
            there = refl;
            called = subst (λ (c : Callee). Among c (calls_of program b)) birth.1 call.1;
            place = birth.2.1;
            pair = ap (λ (n : ℕ). (birth.2.0, n)) none ∙ birth.2.2;
          }
      by (inr later) rest =
          let on = rest later in
          let next : start + suc on.i ≡ start + 1 + on.i = omega arith in
          record {
            i = suc on.i;
            b = on.b;
            at = on.at;
            l = on.l;
            there = on.there;
            called = on.called;
            place = on.place;
            pair = ap (λ (n : ℕ). (on.l, n)) next ∙ on.pair;
          }

  -- and what is born in a body stands there
  body_birth : (start : ℕ) (bs : List Bodied) (i : ℕ) (b : Bodied) (at : DeclAt) (l : ℕ) → slice_get bs i
      ≡ Some b
      → Among (a_birth at) (calls_of program b) → place_of r at ≡ Some l
      → Among (l, start + i) (births_from program r start bs)
  unfolding births_from
  body_birth start [] i b at l there m is = absurd (none-some b there)
  body_birth start (c ∷ bs) zero b at l there m is =
      let none : start ≡ start + 0 = omega arith in
      among-append_left (flat_map (birth_pairs r start) (calls_of program c))
      (births_from program r (start + 1) bs)
      (l, start + 0)
      (subst (λ (n : ℕ). Among {A = ℕ × ℕ} (l, n) (flat_map (birth_pairs r start) (calls_of program c))) none
      (subst (λ (x : Bodied). Among {A = ℕ × ℕ} (l, start) (flat_map (birth_pairs r start)
      (calls_of program x)))
      (sym (same_Some c b there))
      (among-flat_map_from (birth_pairs r start) (calls_of program b) (a_birth at) (l, start) m
      (subst (λ (o : Option ℕ). Among {A = ℕ × ℕ} (l, start) (option_to_list
      (option_map (λ (k : ℕ). (k, start)) o))) (sym is)
      (inl refl)))))
  body_birth start (c ∷ bs) (suc i) b at l there m is =
      let next : start + 1 + i ≡ start + suc i = omega arith in
      among-append_right (flat_map (birth_pairs r start) (calls_of program c))
      (births_from program r (start + 1) bs)
      (l, start + suc i)
      (subst (λ (n : ℕ). Among {A = ℕ × ℕ} (l, n) (births_from program r (start + 1) bs)) next
      (body_birth (start + 1) bs i b at l there m is))

-- a birth stands for no body
no_birth : (program : List ModuleParts) (b : Bodied) (at : DeclAt) → StandsFor program (a_birth at) b → ⊥
no_birth program b at stands = elim stands [ ]

-- ---- what a node makes

module _ (program : List ModuleParts) (noted : List NotedParts) where
  abbrev bodies : List Bodied
  bodies = all_bodied noted

  -- what a node may make: the body of its number may, or the callee
  abbrev NodeMakes : Node → Bytes → Type 0
  NodeMakes (a_body i) h = (b : Bodied) × (slice_get bodies i ≡ Some b) × BodyMakes program noted b h
  NodeMakes (a_callee c) h = Makes program noted c h

  module _ (i : ℕ) (b : Bodied) (there : slice_get bodies i ≡ Some b) (h : Bytes) where
    listed : Contains bodies b
    listed = contains bodies b (there_among bodies i b there)

    -- what stands for a body may make what it makes
    stands_makes : (c : Callee) → StandsFor program c b → NodeMakes (a_body i) h → Makes program noted c h
    stands_makes c stands (other, at, (d, is_called, makes)) =
        let same : other ≡ b = same_Some other b (sym at ∙ there) in
        called c d b h listed stands (subst (λ (x : Bodied). Contains (calls_of program x) d) same is_called)
        makes

    -- an arc to what is called
    called_makes : (x y : Node) (c : Callee) → Contains (calls_of program b) c
        → Among {A = Node × Node} (x, y) ((a_body i, a_callee c) ∷ []) → NodeMakes y h → NodeMakes x h
    called_makes x y c is (inl same) makes =
        subst (λ (n : Node). NodeMakes n h) (ap (λ (p : Node × Node). p.0) same) (
          b,
          there,
          (
            c,
            is,
            subst (λ (n : Node). NodeMakes n h)
                (sym (ap (λ (p : Node × Node). p.1) same)) makes,
          ),
        )
    called_makes x y c is (inr none) makes = absurd none

    -- a call
    call_makes : (x y : Node) (c : Callee) → Contains (calls_of program b) c → Among (x, y) (call_arcs i c)
        → NodeMakes y h → NodeMakes x h
    call_makes x y (a_birth at) is none makes = absurd none
    call_makes x y (a_function place name) is m makes = called_makes x y (a_function place name) is m makes
    call_makes x y (a_method class name) is m makes = called_makes x y (a_method class name) is m makes
    call_makes x y (an_instance class one) is m makes = called_makes x y (an_instance class one) is m makes
    call_makes x y (a_class class) is m makes = called_makes x y (a_class class) is m makes

    -- an arc from what stands for the body
    from_stands : (x y : Node) (c : Callee) → StandsFor program c b → ◌≡◌ {A = Node × Node}
        (a_callee c, a_body i) (x, y)
        → NodeMakes y h → NodeMakes x h
    from_stands x y c stands same makes =
        subst (λ (n : Node). NodeMakes n h) (ap (λ (p : Node × Node). p.0) same)
        (stands_makes c stands (subst (λ (n : Node). NodeMakes n h)
        (sym (ap (λ (p : Node × Node). p.1) same)) makes))

    instance_makes : (x y : Node) (class : DeclAt) → class_of program b ≡ Some class →
        (one : Option Constructor)
        → constructor_for program b ≡ one → Among (x, y) (instance_arcs i class one
        (constraints_of program b))
        → NodeMakes y h → NodeMakes x h
    instance_makes x y class is None none absent makes = absurd absent
    instance_makes x y class is (Some one) of (inl same) makes =
        from_stands x y (an_instance class one) (the_instance b class one is of) same makes
    instance_makes x y class is (Some one) of (inr m) makes =
        let arc : DeclAt → Node × Node = λ (d : DeclAt). (
          a_callee (an_instance class one),
          a_callee
              (a_class d),
        ) in
        let found = among-map arc
        (constraints_of program b) (x, y) m in
        subst (λ (n : Node). NodeMakes n h) (ap (λ (p : Node × Node). p.0) found.2)
        (constrained class found.0 one b h listed (the_instance b class one is of)
        (contains (constraints_of program b) found.0 found.1)
        (subst (λ (n : Node). NodeMakes n h) (sym (ap (λ (p : Node × Node). p.1) found.2)) makes))

    method_makes : (x y : Node) (class : Option DeclAt) → class_of program b ≡ class
        → Among (x, y) (method_arcs i b class (constructor_for program b) (constraints_of program b))
        → NodeMakes y h → NodeMakes x h
    method_makes x y None none absent makes = absurd absent
    method_makes x y (Some class) is (inl same) makes =
        from_stands x y (a_method class b.header.name.name) (the_method b class is) same makes
    method_makes x y (Some class) is (inr (inl same)) makes =
        from_stands x y (a_class class) (the_class b class is) same makes
    method_makes x y (Some class) is (inr (inr m)) makes =
        instance_makes x y class is (constructor_for program b) refl m makes

    home_makes : (x y : Node) (home : Option Home) → b.home ≡ home → Among (x, y) (arcs_at program i b home)
        → NodeMakes y h → NodeMakes x h
    home_makes x y None none (inl same) makes =
        from_stands x y (a_function b.place b.header.name.name) (the_function b none) same makes
    home_makes x y None none (inr absent) makes = absurd absent
    home_makes x y (Some home) some m makes =
        method_makes x y (class_of program b) refl
        (subst (λ (o : Option DeclAt). Among (x, y) (method_arcs i b o (constructor_for program b)
        (constraints_of program b))) (sym (class_at program b home some))
        (subst (λ (o : Option Constructor). Among (x, y) (method_arcs i b
        (class_named (sense_in program b) home.class) o (constraints_of program b)))
        (sym (constructor_at program b home some)) m)) makes

    -- an arc of the body
    body_arc_makes : (x y : Node) → Among (x, y) (body_arcs program i b) → NodeMakes y h → NodeMakes x h
    body_arc_makes x y m makes =
        by (among-append (arcs_at program i b b.home) (flat_map (call_arcs i) (calls_of program b)) (x, y) m)
      where
        by : Among (x, y) (arcs_at program i b b.home)
            ⊎ Among (x, y) (flat_map (call_arcs i) (calls_of program b)) → NodeMakes x h
        by (inl home) = home_makes x y b.home refl home makes
        by (inr calls) =
            let found = among-flat_map (call_arcs i) (calls_of program b) (x, y) calls in
            call_makes x y found.0 (contains (calls_of program b) found.0 found.1) found.2 makes

  -- what an arc leads to, what leads there may make too
  arc_makes : (h : Bytes) (x y : Node) → Among (x, y) (arcs_from program 0 bodies) → NodeMakes y h
      → NodeMakes x h
  arc_makes h x y m makes =
      let found = body_of_arc program 0 bodies (x, y) m in
      let same : 0 + found.0 ≡ found.0 = zero-add found.0 in
      body_arc_makes found.0 found.1 found.2 h x y
      (subst (λ n. Among (x, y) (body_arcs program n found.1)) same found.3) makes

  -- ---- the graph

  module _ (r : Reaching) (reaching : IsReaching program r) (keys : List (List ℕ)) (once : AreOnce keys)
      (es births : List (ℕ × ℕ)) (numbered : AreEdges (length bodies) keys (arcs_from program 0 bodies) es)
      (of_bodies : births ≡ births_from program r 0 bodies) (graph labels made : List (List ℕ))
      (of_edges : IsGraphOf (length bodies + length keys) es graph)
      (of_births : IsGraphOf (length r.heads.items) births labels)
      (spread : AreSpread graph labels made) where
    abbrev count : ℕ
    count = length bodies

    is_body : (i : ℕ) (b : Bodied) → slice_get bodies i ≡ Some b → IsNumber count keys (a_body i) i
    is_body i b there = (refl, slice_get_within bodies i b there)

    -- the number of a node is below that of all nodes
    number_below : (x : Node) (n : ℕ) → IsNumber count keys x n → n < count + length keys
    number_below (a_body i) n p = omega (arith, p.0, p.1)
    number_below (a_callee c) n p =
        let within = slice_get_within keys p.0 (key_of c) p.2 in omega (arith, p.1, within)

    body_below : (i : ℕ) (b : Bodied) → slice_get bodies i ≡ Some b → i < length graph
    body_below i b there =
        let within = slice_get_within bodies i b there in let size = of_edges.size in omega arith

    -- an edge of the graph
    edge_named : (a b : ℕ) → Names graph a b → Among (a, b) es
    edge_named a b edge = among es (a, b) ((of_edges.names a b).0 edge).1

    edge_there : (x : Node) (a b : ℕ) → IsNumber count keys x a → Among (a, b) es → Names graph a b
    edge_there x a b is m = (of_edges.names a b).1 (number_below x a is, contains es (a, b) m)

    -- ---- births

    -- a head comes from a body in which it is born
    born_in : (l s : ℕ) → Names labels l s
        → (at : DeclAt) × (b : Bodied) × (slice_get bodies s ≡ Some b) × Contains (calls_of program b)
        (a_birth at)
        × ((one : Naming) × (slice_get r.heads.items l ≡ Some one) × (one.of ≡ at))
    born_in l s names =
        let pair = subst (λ (ps : List (ℕ × ℕ)). Contains ps (l, s)) of_bodies
        ((of_births.names l s).0 names).1 in
        let birth = birth_of_body program r 0 bodies (l, s) (among (births_from program r 0 bodies)
        (l, s) pair) in
        let same : birth.i ≡ s = sym (zero-add birth.i) ∙ ap (λ (p : ℕ × ℕ). p.1) birth.pair in (
          birth.at,
          birth.b,
          subst (λ (i : ℕ). slice_get bodies i ≡ Some birth.b) same birth.there,
          contains (calls_of program birth.b) (a_birth birth.at) birth.called,
          reaching.placed birth.at l (birth.place ∙ ap (λ (p : ℕ × ℕ). Some p.0) birth.pair),
        )

    -- and one that is born there comes to it
    born_to : (at : DeclAt) (h : Bytes) (b : Bodied) (s : ℕ) → slice_get bodies s ≡ Some b
        → Contains (calls_of program b) (a_birth at) → head_of program at ≡ Some h
        → (l : ℕ) × IsHeadAt program r l h × Names labels l s
    born_to at h b s there is e =
        let found = reaching.found at h e in
        let one = reaching.placed at found.0 found.1 in
        let low = slice_get_within r.heads.items found.0 one.0 one.1 in
        let birth = body_birth program r 0 bodies s b at found.0 there
        (among (calls_of program b) (a_birth at) is)
        found.1 in
        let pair : Contains births (found.0, s) =
        subst (λ (ps : List (ℕ × ℕ)). Contains ps (found.0, s)) (sym of_bodies)
        (contains (births_from program r 0 bodies) (found.0, s)
        (subst (λ (i : ℕ). Among (found.0, i) (births_from program r 0 bodies)) (zero-add s) birth)) in (
          found.0,
          (one.0, one.1, ap (head_of program) one.2 ∙ e),
          (of_births.names found.0 s).1 (low, pair),
        )

    -- ---- ways

    -- along an edge
    edge_makes : (h : Bytes) (a b : ℕ) → Names graph a b → (y : Node) → IsNumber count keys y b
        → NodeMakes y h
        → (x : Node) × IsNumber count keys x a × NodeMakes x h
    edge_makes h a b edge y is_y makes =
        let arc = edge_arc count keys (arcs_from program 0 bodies) es numbered a b (edge_named a b edge) in
        let same : y ≡ arc.1 = same_node count keys y arc.1 b is_y arc.4 in
        (arc.0, arc.3, arc_makes h arc.0 arc.1 arc.2 (subst (λ (n : Node). NodeMakes n h) same makes))

    path_makes : (h : Bytes) (a s : ℕ) → Leads graph a s → (y : Node) → IsNumber count keys y s
        → NodeMakes y h
        → (x : Node) × IsNumber count keys x a × NodeMakes x h
    path_makes h a s (directly x z edge) y is_y makes = edge_makes h x z edge y is_y makes
    path_makes h a s (onward x b z edge rest) y is_y makes =
        let r = path_makes h b z rest y is_y makes in edge_makes h x b edge r.0 r.1 r.2

    -- what comes to a body it may make
    to_makes : (i : ℕ) (b : Bodied) (h : Bytes) (l : ℕ) → slice_get bodies i ≡ Some b → IsHeadAt program r l h
        → LeadsTo graph (successors labels l) i → BodyMakes program noted b h
    to_makes i b h l there (one, is_one, is_head) (s, within, has, path) =
        let birth = born_in l s has in
        let named = birth.4 in
        let at_is : one.of ≡ birth.0 =
        ap (λ (n : Naming). n.of) (same_Some one named.0 (sym is_one ∙ named.1)) ∙ named.2 in
        let makes : BodyMakes program noted birth.1 h =
        (a_birth birth.0, birth.3, born birth.0 h (ap (head_of program) (sym at_is) ∙ is_head)) in
        let start : NodeMakes (a_body s) h = (birth.1, birth.2, makes) in
        back (walk path start (is_body s birth.1 birth.2))
      where
        walk : (i ≡ s) ⊎ Leads graph i s → NodeMakes (a_body s) h → IsNumber count keys (a_body s) s
            → (x : Node) × IsNumber count keys x i × NodeMakes x h
        walk (inl same) makes is_s =
            (a_body s, subst (IsNumber count keys (a_body s)) (sym same) is_s, makes)
        walk (inr leads) makes is_s = path_makes h i s leads (a_body s) is_s makes

        back : (x : Node) × IsNumber count keys x i × NodeMakes x h → BodyMakes program noted b h
        back (x, is_x, makes) =
            let same : x ≡ a_body i = same_node count keys x (a_body i) i is_x (is_body i b there) in
            let m = subst (λ (n : Node). NodeMakes n h) same makes in
            subst (λ (c : Bodied). BodyMakes program noted c h) (same_Some m.0 b (sym m.1 ∙ there)) m.2

    -- a node that leads to births of a head
    abbrev LeadsHead : ℕ → Bytes → Type 0
    LeadsHead n h = (l : ℕ) × IsHeadAt program r l h × LeadsTo graph (successors labels l) n

    leads_on : (a b s : ℕ) → Names graph a b → (b ≡ s) ⊎ Leads graph b s → Leads graph a s
    leads_on a b s edge (inl same) = directly a s (subst (Names graph a) same edge)
    leads_on a b s edge (inr leads) = onward a b s edge leads

    on_edge : (h : Bytes) (a b : ℕ) → Names graph a b → LeadsHead b h → LeadsHead a h
    on_edge h a b edge (l, is_head, (s, within, has, path)) =
        (l, is_head, (s, within, has, inr (leads_on a b s edge path)))

    -- an arc of a body leads on
    on_arc : (h : Bytes) (i : ℕ) (b : Bodied) → slice_get bodies i ≡ Some b → (x y : Node)
        → Among (x, y) (body_arcs program i b) → (n : ℕ) → IsNumber count keys x n
        → ((m : ℕ) → IsNumber count keys y m → LeadsHead m h) → LeadsHead n h
    on_arc h i b there x y m n is_n next =
        let zero_i : i ≡ 0 + i = sym (zero-add i) in
        let edge = arc_edge count keys (arcs_from program 0 bodies) es numbered x y
        (arc_of_body program 0 bodies i b (x, y) there
        (subst (λ k. Among (x, y) (body_arcs program k b)) zero_i m)) in
        let from_n : edge.0 ≡ n = same_number count keys once x edge.0 n edge.3 is_n in
        on_edge h n edge.1
        (subst (λ k. Names graph k edge.1) from_n (edge_there x edge.0 edge.1 edge.3 edge.2))
        (next edge.1 edge.4)

    -- only births of a head make it by themselves
    birth_head : (at : DeclAt) (h : Bytes) → Makes program noted (a_birth at) h → head_of program at ≡ Some h
    birth_head at h (born x k is) = is
    birth_head at h (called c d b k there stands is makes) = absurd (no_birth program b at stands)

    -- the arc of a call
    call_arc : (i : ℕ) (d : Callee) → IsCalled d → Among (a_body i, a_callee d) (call_arcs i d)
    call_arc i d is = subst (λ (l : List (Node × Node)). Among (a_body i, a_callee d) l) (called_arc i d is)
        (inl refl)

    -- a body leads where a callee does that is no birth
    by_call : (i : ℕ) (b : Bodied) → slice_get bodies i ≡ Some b → (d : Callee) (h : Bytes)
        → Contains (calls_of program b) d → IsCalled d
        → ((n : ℕ) → IsCalled d → IsNumber count keys (a_callee d) n → LeadsHead n h) → LeadsHead i h
    by_call i b there d h is is_called next =
        on_arc h i b there (a_body i) (a_callee d)
        (among-append_right (arcs_at program i b b.home) (flat_map (call_arcs i) (calls_of program b))
        (a_body i, a_callee d)
        (among-flat_map_from (call_arcs i) (calls_of program b) d (a_body i, a_callee d)
        (among (calls_of program b) d is) (call_arc i d is_called)))
        i (is_body i b there) (λ m is_m. next m is_called is_m)

    -- a body of which a call may make leads there, where what it calls does
    body_step : (i : ℕ) (b : Bodied) → slice_get bodies i ≡ Some b → (d : Callee) (h : Bytes)
        → Contains (calls_of program b) d → Makes program noted d h
        → ((n : ℕ) → IsCalled d → IsNumber count keys (a_callee d) n → LeadsHead n h) → LeadsHead i h
    body_step i b there (a_birth at) h is makes next =
        let place = born_to at h b i there is (birth_head at h makes) in
        (place.0, place.1, (i, body_below i b there, place.2, inl refl))
    body_step i b there (a_function place name) h is makes next = by_call i b there
        (a_function place name) h is tt next
    body_step i b there (a_method class name) h is makes next = by_call i b there
        (a_method class name) h is tt next
    body_step i b there (an_instance class one) h is makes next = by_call i b there
        (an_instance class one) h is tt next
    body_step i b there (a_class class) h is makes next = by_call i b there (a_class class) h is tt next

    -- a callee that may make leads there
    makes_lead : (c : Callee) (h : Bytes) → Makes program noted c h → (n : ℕ) → IsCalled c
        → IsNumber count keys (a_callee c) n → LeadsHead n h
    makes_lead c h (born at k is) n none is_n = absurd none
    makes_lead c h (called e d b k there stands is makes) n is_called is_n =
        let at = among_at bodies b (among bodies b there) in
        on_arc h at.0 b at.1 (a_callee c) (a_body at.0)
        (among-append_left (arcs_at program at.0 b b.home) (flat_map (call_arcs at.0) (calls_of program b))
        (a_callee c, a_body at.0) (stands_arc program at.0 b c stands)) n is_n
        (λ m is_m. subst (λ k. LeadsHead k h) (sym is_m.0)
        (body_step at.0 b at.1 d h is makes (λ k. makes_lead d h makes k)))
    makes_lead c h (constrained class other one b k there stands is makes) n is_called is_n =
        let at = among_at bodies b (among bodies b there) in
        on_arc h at.0 b at.1 (a_callee (an_instance class one)) (a_callee (a_class other))
        (among-append_left (arcs_at program at.0 b b.home) (flat_map (call_arcs at.0) (calls_of program b))
        (a_callee (an_instance class one), a_callee (a_class other))
        (constraint_arc program at.0 b class other one stands is)) n is_n
        (λ m is_m. makes_lead (a_class other) h makes m tt is_m)

    -- what a body may make comes to it
    from_makes : (i : ℕ) (b : Bodied) (h : Bytes) → slice_get bodies i ≡ Some b → BodyMakes program noted b h
        → LeadsHead i h
    from_makes i b h there (d, is, makes) = body_step i b there d h is makes (λ k. makes_lead d h makes k)

    -- the labels of a body are the places of the heads that it may make
    pub labels_are : (i : ℕ) (b : Bodied) → slice_get bodies i ≡ Some b → (h : Bytes)
        → ((l : ℕ) × IsHeadAt program r l h × Names made i l) ↔ BodyMakes program noted b h
    labels_are i b there h = (to, from)
      where
        within : i < length graph
        within = body_below i b there

        to : (l : ℕ) × IsHeadAt program r l h × Names made i l → BodyMakes program noted b h
        to (l, is_head, has) = to_makes i b h l there is_head ((spread i l within).0 has)

        from : BodyMakes program noted b h → (l : ℕ) × IsHeadAt program r l h × Names made i l
        from makes =
            let found = from_makes i b h there makes in (
              found.0,
              found.1,
              (spread i found.0 within).1 found.2,
            )

-- so the labels that the code holds are these
pub all_labelled : (program : List ModuleParts) (noted : List NotedParts) (bs : List Bodied) → bs
    ≡ all_bodied noted
    → (r : Reaching) → IsReaching program r → (w : Web) (count : ℕ) → IsWebOf program r count bs w
    → count ≡ length bs → (graph labels made : List (List ℕ))
    → IsGraphOf (w.count + length (keys_in w)) w.edges.items graph → (heads : ℕ) → heads
    ≡ length r.heads.items
    → IsGraphOf heads w.births.items labels → AreSpread graph labels made
    → AreLabelled program noted r bs made
all_labelled program noted bs same r reaching w total web long graph labels made of_edges heads many
    of_births spread =
    let all = all_bodied noted in
    let counted : w.count ≡ length all = web.count ∙ long ∙ ap (λ (l : List Bodied). length l) same in
    let numbered : AreEdges (length all) (keys_in w) (arcs_from program 0 all) w.edges.items =
    subst (λ (n : ℕ). AreEdges n (keys_in w) (arcs_from program 0 all) w.edges.items) counted
    (subst (λ (l : List Bodied). AreEdges w.count (keys_in w) (arcs_from program 0 l) w.edges.items) same
    web.arcs) in
    let births = web.births ∙ ap (λ (l : List Bodied). births_from program r 0 l) same in
    let edges_are = subst (λ (n : ℕ). IsGraphOf (n + length (keys_in w)) w.edges.items graph) counted
    of_edges in
    let births_are = subst (λ (n : ℕ). IsGraphOf n w.births.items labels) many of_births in
    subst (λ (l : List Bodied). AreLabelled program noted r l made) (sym same)
    (λ i b there h. labels_are program noted r reaching (keys_in w) web.once w.edges.items w.births.items
    numbered births
    graph labels made edges_are births_are spread i b there h)
