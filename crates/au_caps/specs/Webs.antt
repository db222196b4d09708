-- The graph of what leads to what: bodies and callees, their numbers, and the edges between them.
use Rattle.std.specs.Prelude.{◌≡◌, ◌<◌, ℕ, ◌+◌, List, [], ◌∷◌, ◌++◌, map, Option, None, Some, slice_get}
use Rattle.std.specs.Prelude.{◌↔◌, Contains, length, option_to_list}
use Rattle.au_graphs.specs.Cycles.{Names}
use Rattle.std.specs.List.{flat_map}
use Rattle.std.specs.Option.{option_map}
use Rattle.au_caps_types.specs.declared.reached.Reaching.{Reaching}
use Rattle.au_caps_types.specs.Views.{place_of}
use Rattle.au_syntax.specs.Plain.{Bytes}
use Rattle.au_types.specs.declared.types.DeclAt.{DeclAt}
use Rattle.au_types.specs.Senses.{Sense}
use Rattle.au_instances.specs.declared.constructors.Constructor.{Constructor}
use Rattle.au_modules.specs.Programs.{ModuleParts}
use Rattle.au_caps_lists.specs.Bodies.{Bodied, Home, sense_in}
use Rattle.au_caps.specs.Calls.{Callee, a_birth, a_function, a_method, an_instance, a_class, calls_of}
use Rattle.au_caps.specs.Keys.{key_of}
use Rattle.au_caps.specs.Making.{class_named, classes_of, constructor_written}

-- a node: the body of a number, or a callee
pub data Node : Type 0 where
  a_body : ℕ → Node
  a_callee : Callee → Node

-- The number of a node, where there are so many bodies and these keys: bodies come first, and then the keys
-- of callees.
abbrev pub IsNumber : ℕ → List (List ℕ) → Node → ℕ → Type 0
IsNumber count keys (a_body i) n = (n ≡ i) × (i < count)
IsNumber count keys (a_callee c) n = (k : ℕ) × (n ≡ count + k) × (slice_get keys k ≡ Some (key_of c))

-- edges are the arcs between nodes, by numbers
pub data AreEdges (count : ℕ) (keys : List (List ℕ)) : List (Node × Node) → List (ℕ × ℕ) → Type 0 where
  no_edges : AreEdges count keys [] []
  edges : (a b : Node) (arcs : List (Node × Node)) (from to : ℕ) (rest : List (ℕ × ℕ))
      → IsNumber count keys a from
      → IsNumber count keys b to → AreEdges count keys arcs rest
      → AreEdges count keys ((a, b) ∷ arcs) ((from, to) ∷ rest)

-- ---- the arcs of a body of a number

-- it leads to a callee, which is no birth
abbrev pub call_arcs : ℕ → Callee → List (Node × Node)
call_arcs i (a_birth at) = []
call_arcs i c = (a_body i, a_callee c) ∷ []

-- the constraints of an instance lead to classes
abbrev pub constraint_arcs : DeclAt → Constructor → List DeclAt → List (Node × Node)
constraint_arcs class one others =
    map (λ (other : DeclAt). (a_callee (an_instance class one), a_callee (a_class other))) others

-- an instance leads to its method, and to the classes of its constraints
abbrev pub instance_arcs : ℕ → DeclAt → Option Constructor → List DeclAt → List (Node × Node)
instance_arcs i class None others = []
instance_arcs i class (Some one) others =
    (a_callee (an_instance class one), a_body i) ∷ constraint_arcs class one others

-- what stands for a function leads to it
abbrev pub function_arcs : ℕ → Bodied → List (Node × Node)
function_arcs i b = (a_callee (a_function b.place b.header.name.name), a_body i) ∷ []

-- what stands for a method of an instance of a class leads to it, where the instance has a constructor, if
-- its type has one, and its constraints name other classes
abbrev pub method_arcs : ℕ → Bodied → Option DeclAt → Option Constructor → List DeclAt → List (Node × Node)
method_arcs i b None one others = []
method_arcs i b (Some class) one others =
    (a_callee (a_method class b.header.name.name), a_body i)
    ∷ (a_callee (a_class class), a_body i)
    ∷ instance_arcs i class one others

-- what stands for a body leads to it, by what a name means there among types
abbrev pub owner_arcs : (Bytes → Option Sense) → ℕ → Bodied → Option Home → List (Node × Node)
owner_arcs sense i b None = function_arcs i b
owner_arcs sense i b (Some home) =
    method_arcs i b (class_named sense home.class) (constructor_written sense home.of)
    (classes_of sense b.generics)

module _ (program : List ModuleParts) where
  abbrev pub arcs_at : ℕ → Bodied → Option Home → List (Node × Node)
  arcs_at i b home = owner_arcs (sense_in program b) i b home

  -- all arcs of a body
  abbrev pub body_arcs : ℕ → Bodied → List (Node × Node)
  body_arcs i b = arcs_at i b b.home ++ flat_map (call_arcs i) (calls_of program b)

  -- those of bodies in order, the first of which has this number
  unfoldable pub arcs_from : ℕ → List Bodied → List (Node × Node)
  arcs_from i [] = []
  arcs_from i (b ∷ bs) = body_arcs i b ++ arcs_from (i + 1) bs

-- ---- graphs

-- A graph has so many nodes and these edges; one from a number that no node has is left out.
pub record IsGraphOf (nodes : ℕ) (pairs : List (ℕ × ℕ)) (graph : List (List ℕ)) : Type 0 where
  pub size : length graph ≡ nodes
  pub names : (a b : ℕ) → Names graph a b ↔ ((a < nodes) × Contains pairs (a, b))

-- ---- births

-- a birth in the body of a number, by the place of its head, if it has one
abbrev pub birth_pairs : Reaching → ℕ → Callee → List (ℕ × ℕ)
birth_pairs r i (a_birth at) = option_to_list (option_map (λ (l : ℕ). (l, i)) (place_of r at))
birth_pairs r i c = []

-- those of bodies in order, the first of which has this number
unfoldable pub births_from : List ModuleParts → Reaching → ℕ → List Bodied → List (ℕ × ℕ)
births_from program r i [] = []
births_from program r i (b ∷ bs) =
    flat_map (birth_pairs r i) (calls_of program b) ++ births_from program r (i + 1) bs
