-- Steps that add arcs and births to what is held, one after the other.
use Rattle.std.proofs.Common.{◌≡◌, ℕ, ◌+◌, ◌<◌, List, [], ◌∷◌, ◌++◌, Option, Some, length, refl, sym, ap}
use Rattle.std.proofs.Common.{◌∙◌, subst, append_assoc, arith, zero-add}
use Rattle.std.specs.List.{flat_map}
use Rattle.std.specs.Prelude.{slice_get}
use Rattle.std.proofs.lemmas.List.{append-nil}
use Rattle.std.proofs.lemmas.Option.{none-some}
use Rattle.au_syntax.specs.Plain.{Bytes}
use Rattle.au_types.specs.Senses.{Sense}
use Rattle.au_modules.specs.Programs.{ModuleParts}
use Rattle.au_caps_types.specs.declared.reached.Reaching.{Reaching}
use Rattle.au_caps.specs.declared.webs.Web.{Web}
use Rattle.au_caps_lists.specs.Bodies.{Bodied, sense_in}
use Rattle.au_caps.specs.Calls.{Callee, a_birth, a_function, a_method, an_instance, a_class, calls_of}
use Rattle.au_caps.specs.Keys.{key_of}
use Rattle.au_caps.specs.Views.{AreOnce, Grows, HoldsArcs, IsWebOf, keys_in}
use Rattle.au_caps.specs.Webs.{AreEdges, IsNumber, Node, a_body, a_callee, arcs_from, birth_pairs}
use Rattle.au_caps.specs.Webs.{births_from}
use Rattle.au_caps.specs.Webs.{body_arcs, call_arcs, edges, no_edges, owner_arcs}

-- ---- numbers and edges

-- where numbers that were given stay
module _ (count more : ℕ) (keys next : List (List ℕ)) (same : more ≡ count)
    (stay : (i : ℕ) (key : List ℕ) → slice_get keys i ≡ Some key → slice_get next i ≡ Some key) where
  pub numbers_stay : (x : Node) (n : ℕ) → IsNumber count keys x n → IsNumber more next x n
  numbers_stay (a_body i) n p = (p.0, subst (λ (c : ℕ). i < c) (sym same) p.1)
  numbers_stay (a_callee c) n p =
      (p.0, p.1 ∙ ap (λ (k : ℕ). k + p.0) (sym same), stay p.0 (key_of c) p.2)

  pub edges_stay : (arcs : List (Node × Node)) (es : List (ℕ × ℕ)) → AreEdges count keys arcs es
      → AreEdges more next arcs es
  edges_stay arcs es no_edges = no_edges
  edges_stay arcs es (edges a b others from to rest is_a is_b on) =
      edges a b others from to rest (numbers_stay a from is_a) (numbers_stay b to is_b)
      (edges_stay others rest on)

-- one more edge
module _ (count : ℕ) (keys : List (List ℕ)) (a b : Node) (from to : ℕ) (is_a : IsNumber count keys a from)
    (is_b : IsNumber count keys b to) where
  pub edges_push : (arcs : List (Node × Node)) (es : List (ℕ × ℕ)) → AreEdges count keys arcs es
      → AreEdges count keys (arcs ++ (a, b) ∷ []) (es ++ (from, to) ∷ [])
  edges_push arcs es no_edges = edges a b [] from to [] is_a is_b no_edges
  edges_push arcs es (edges x y others i j rest is_x is_y on) =
      edges x y (others ++ (a, b) ∷ []) i j (rest ++ (from, to) ∷ []) is_x is_y (edges_push others rest on)

-- ---- steps

pub number_stays : (arcs : List (Node × Node)) (births : List (ℕ × ℕ)) (old new : Web)
    → Grows arcs births old new
    → (x : Node) (n : ℕ) → IsNumber old.count (keys_in old) x n → IsNumber new.count (keys_in new) x n
number_stays arcs births old new g x n is =
    numbers_stay old.count new.count (keys_in old) (keys_in new) g.count g.keys x n is

-- nothing is added
pub grows_none : (w : Web) → Grows [] [] w w
grows_none w = record {
  count = refl;
  keys = λ i key is. is;
  once = λ is. is;
  edges = λ all held. subst (HoldsArcs w) (sym (append-nil all)) held;
  births = sym (append-nil w.births.items);
}

-- keys alone are added
pub grows_keys : (old new : Web) → new.count ≡ old.count → new.edges.items ≡ old.edges.items
    → new.births.items ≡ old.births.items
    → ((i : ℕ) (key : List ℕ) → slice_get (keys_in old) i ≡ Some key → slice_get (keys_in new) i ≡ Some key)
    → AreOnce (keys_in new) → Grows [] [] old new
grows_keys old new counted es bs stay once = record {
  count = counted;
  keys = stay;
  once = λ before. once;
  edges = λ all held.
      subst (λ (l : List (Node × Node)). HoldsArcs new l) (sym (append-nil all))
      (subst (λ (l : List (ℕ × ℕ)). AreEdges new.count (keys_in new) all l) (sym es)
      (edges_stay old.count new.count (keys_in old) (keys_in new) counted stay all old.edges.items held));
  births = bs ∙ sym (append-nil old.births.items);
}

-- an edge is added
pub grows_edge : (old new : Web) (from to : ℕ) (a b : Node) → new.count ≡ old.count → keys_in new
    ≡ keys_in old
    → new.births.items ≡ old.births.items → new.edges.items ≡ old.edges.items ++ (from, to) ∷ []
    → IsNumber old.count (keys_in old) a from → IsNumber old.count (keys_in old) b to
    → Grows ((a, b) ∷ []) [] old new
grows_edge old new from to a b counted keys bs es is_a is_b = record {
  count = counted;
  keys = λ i key is. subst (λ (ks : List (List ℕ)). slice_get ks i ≡ Some key) (sym keys) is;
  once = λ before. subst AreOnce (sym keys) before;
  edges = λ all held.
      subst (λ (l : List (ℕ × ℕ)). AreEdges new.count (keys_in new) (all ++ (a, b) ∷ []) l) (sym es)
      (edges_stay old.count new.count (keys_in old) (keys_in new) counted
      (λ i key is. subst (λ (ks : List (List ℕ)). slice_get ks i ≡ Some key) (sym keys) is)
      (all ++ (a, b) ∷ [])
      (old.edges.items ++ (from, to) ∷ [])
      (edges_push old.count (keys_in old) a b from to is_a is_b all old.edges.items held));
  births = bs ∙ sym (append-nil old.births.items);
}

-- a birth is added
pub grows_birth : (old new : Web) (p : ℕ × ℕ) → new.count ≡ old.count → keys_in new ≡ keys_in old
    → new.edges.items ≡ old.edges.items → new.births.items ≡ old.births.items ++ p ∷ [] → Grows []
    (p ∷ []) old new
grows_birth old new p counted keys es bs = record {
  count = counted;
  keys = λ i key is. subst (λ (ks : List (List ℕ)). slice_get ks i ≡ Some key) (sym keys) is;
  once = λ before. subst AreOnce (sym keys) before;
  edges = λ all held.
      subst (λ (l : List (Node × Node)). HoldsArcs new l) (sym (append-nil all))
      (subst (λ (l : List (ℕ × ℕ)). AreEdges new.count (keys_in new) all l) (sym es)
      (edges_stay old.count new.count (keys_in old) (keys_in new) counted
      (λ i key is. subst (λ (ks : List (List ℕ)). slice_get ks i ≡ Some key) (sym keys) is) all
      old.edges.items held));
  births = bs;
}

-- one step after the other
pub grows_then : (arcs more : List (Node × Node)) (bs cs : List (ℕ × ℕ)) (a b c : Web) → Grows arcs bs a b
    → Grows more cs b c → Grows (arcs ++ more) (bs ++ cs) a c
grows_then arcs more bs cs a b c first second = record {
  count = second.count ∙ first.count;
  keys = λ i key is. second.keys i key (first.keys i key is);
  once = λ is. second.once (first.once is);
  edges = λ all held.
      subst (HoldsArcs c) (append_assoc all arcs more) (second.edges (all ++ arcs) (first.edges all held));
  births = second.births ∙ ap (λ (l : List (ℕ × ℕ)). l ++ cs) first.births
      ∙ append_assoc a.births.items bs cs;
}

-- what is added by other names
pub grows_as : (arcs more : List (Node × Node)) (bs cs : List (ℕ × ℕ)) (a b : Web) → arcs ≡ more → bs ≡ cs
    → Grows arcs bs a b → Grows more cs a b
grows_as arcs more bs cs a b same born g =
    subst (λ (l : List (Node × Node)). Grows l cs a b) same (subst
    (λ (l : List (ℕ × ℕ)). Grows arcs l a b) born g)

-- an arc from what has a key
pub grows_from : (old mid new : Web) (from to : ℕ) (c : Callee) (b : Node) → Grows [] [] old mid
    → IsNumber mid.count (keys_in mid) (a_callee c) from → IsNumber old.count (keys_in old) b to
    → ((x y : Node) → IsNumber mid.count (keys_in mid) x from → IsNumber mid.count (keys_in mid) y to
    → Grows ((x, y) ∷ []) [] mid new)
    → Grows ((a_callee c, b) ∷ []) [] old new
grows_from old mid new from to c b first is_c is_b second =
    grows_then [] ((a_callee c, b) ∷ []) [] [] old mid new first
    (second (a_callee c) b is_c (number_stays [] [] old mid first b to is_b))

-- and one to it
pub grows_to : (old mid new : Web) (from to : ℕ) (a : Node) (c : Callee) → Grows [] [] old mid
    → IsNumber mid.count (keys_in mid) (a_callee c) to → IsNumber old.count (keys_in old) a from
    → ((x y : Node) → IsNumber mid.count (keys_in mid) x from → IsNumber mid.count (keys_in mid) y to
    → Grows ((x, y) ∷ []) [] mid new)
    → Grows ((a, a_callee c) ∷ []) [] old new
grows_to old mid new from to a c first is_c is_a second =
    grows_then [] ((a, a_callee c) ∷ []) [] [] old mid new first
    (second a (a_callee c) (number_stays [] [] old mid first a from is_a) is_c)

-- ---- calls

-- what is called and no birth
abbrev pub IsCalled : Callee → Type 0
IsCalled (a_birth at) = ⊥
IsCalled (a_function place name) = Unit {0}
IsCalled (a_method class name) = Unit {0}
IsCalled (an_instance class one) = Unit {0}
IsCalled (a_class class) = Unit {0}

-- it has one arc, and adds no birth
pub called_arc : (i : ℕ) (c : Callee) → IsCalled c → (a_body i, a_callee c) ∷ [] ≡ call_arcs i c
called_arc i (a_birth at) none = absurd none
called_arc i (a_function place name) is = refl
called_arc i (a_method class name) is = refl
called_arc i (an_instance class one) is = refl
called_arc i (a_class class) is = refl

pub called_births : (r : Reaching) (i : ℕ) (c : Callee) → IsCalled c → [] ≡ birth_pairs r i c
called_births r i (a_birth at) none = absurd none
called_births r i (a_function place name) is = refl
called_births r i (a_method class name) is = refl
called_births r i (an_instance class one) is = refl
called_births r i (a_class class) is = refl

pub grows_called : (r : Reaching) (i : ℕ) (c : Callee) (old new : Web) → IsCalled c
    → Grows ((a_body i, a_callee c) ∷ []) [] old new → Grows (call_arcs i c) (birth_pairs r i c) old new
grows_called r i c old new is g =
    grows_as ((a_body i, a_callee c) ∷ []) (call_arcs i c) [] (birth_pairs r i c) old new (called_arc i c is)
    (called_births r i c is) g

-- ---- bodies

-- what a name means is the same in a scope of a body
pub owner_same : (program : List ModuleParts) (sense : Bytes → Option Sense) (i : ℕ) (b : Bodied)
    → sense ≡ sense_in program b → owner_arcs sense i b b.home ≡ owner_arcs (sense_in program b) i b b.home
owner_same program sense i b same = ap (λ (s : Bytes → Option Sense). owner_arcs s i b b.home) same

arcs_push : (program : List ModuleParts) (i : ℕ) (bs : List Bodied) (b : Bodied)
    → arcs_from program i (bs ++ b ∷ []) ≡ arcs_from program i bs ++ body_arcs program (i + length bs) b
unfolding arcs_from
arcs_push program i [] b =
    let same : i ≡ i + 0 = omega arith in
    append-nil (body_arcs program i b) ∙ ap (λ (n : ℕ). body_arcs program n b) same
arcs_push program i (x ∷ xs) b =
    let same : i + 1 + length xs ≡ i + length (x ∷ xs) = omega arith in
    ap (λ (l : List (Node × Node)). body_arcs program i x ++ l)
    (arcs_push program (i + 1) xs b
    ∙ ap (λ (n : ℕ). arcs_from program (i + 1) xs ++ body_arcs program n b) same)
    ∙ sym (append_assoc (body_arcs program i x) (arcs_from program (i + 1) xs)
    (body_arcs program (i + length (x ∷ xs)) b))

module _ (program : List ModuleParts) (r : Reaching) where
  abbrev born_by : ℕ → Bodied → List (ℕ × ℕ)
  born_by i b = flat_map (birth_pairs r i) (calls_of program b)

  births_push : (i : ℕ) (bs : List Bodied) (b : Bodied)
      → births_from program r i (bs ++ b ∷ []) ≡ births_from program r i bs ++ born_by (i + length bs) b
  unfolding births_from
  births_push i [] b =
      let same : i ≡ i + 0 = omega arith in
      append-nil (born_by i b) ∙ ap (λ (n : ℕ). born_by n b) same
  births_push i (x ∷ xs) b =
      let same : i + 1 + length xs ≡ i + length (x ∷ xs) = omega arith in
      ap (λ (l : List (ℕ × ℕ)). born_by i x ++ l)
      (births_push (i + 1) xs b ∙ ap (λ (n : ℕ). births_from program r (i + 1) xs ++ born_by n b) same)
      ∙ sym (append_assoc (born_by i x) (births_from program r (i + 1) xs) (born_by (i + length (x ∷ xs)) b))

  -- no body
  pub web_none : (count : ℕ) (w : Web) → w.count ≡ count → keys_in w ≡ [] → w.edges.items ≡ []
      → w.births.items ≡ [] → IsWebOf program r count [] w
  unfolding arcs_from births_from
  web_none count w counted keys es bs = record {
    count = counted;
    once = λ i j key is also.
        absurd (none-some key (subst (λ (ks : List (List ℕ)). slice_get ks i ≡ Some key) keys is));
    arcs = subst (λ (l : List (ℕ × ℕ)). AreEdges w.count (keys_in w) [] l) (sym es) no_edges;
    births = bs;
  }

  -- and one more
  pub web_more : (count : ℕ) (bs : List Bodied) (b : Bodied) (i : ℕ) (old new : Web) → length bs ≡ i
      → IsWebOf program r count bs old → Grows (body_arcs program i b) (born_by i b) old new
      → IsWebOf program r count (bs ++ b ∷ []) new
  web_more count bs b i old new long before g =
      let at : i ≡ 0 + length bs = sym (zero-add (length bs) ∙ long) in
      record {
        count = g.count ∙ before.count;
        once = g.once before.once;
        arcs =
            subst (HoldsArcs new)
            (ap (λ (n : ℕ). arcs_from program 0 bs ++ body_arcs program n b) at ∙ sym
            (arcs_push program 0 bs b))
            (g.edges (arcs_from program 0 bs) before.arcs);
        births =
            g.births
            ∙ ap (λ (l : List (ℕ × ℕ)). l ++ born_by i b) before.births
            ∙ ap (λ (n : ℕ). births_from program r 0 bs ++ born_by n b) at
            ∙ sym (births_push 0 bs b);
      }
