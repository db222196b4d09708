-- What the code's values say.
use Rattle.std.specs.Prelude.{◌≡◌, ◌↔◌, ◌++◌, ℕ, List, Some, map, slice_get}
use Rattle.au_graphs.specs.Finding.{numbers}
use Rattle.au_caps.specs.declared.webs.Web.{Web}
use Rattle.au_caps.specs.Making.{BodyMakes}
use Rattle.au_caps.specs.Webs.{AreEdges, Node, arcs_from, births_from}
use Rattle.au_graphs.specs.Cycles.{Names}
use Rattle.au_modules.specs.Programs.{ModuleParts}
use Rattle.au_caps_types.specs.declared.reached.Reaching.{Reaching}
use Rattle.au_caps_types.specs.Views.{IsHeadAt}
use Rattle.au_syntax.specs.Plain.{Bytes}
use Rattle.au_types.specs.Tables.{find}
use Rattle.au_modules.specs.Slots as slots
use Rattle.au_typing.specs.Notes.{Note}
use Rattle.au_typing.specs.Trees.{NotedParts}
use Rattle.au_caps_lists.specs.Bodies.{Bodied}
use Rattle.au_caps.specs.declared.callees.Callee as callees
use Rattle.au_caps.specs.declared.callees.Callee.TheVariants as code
use Rattle.au_caps.specs.declared.calls.Sight.{Sight}
use Rattle.au_caps.specs.Calls.{Callee, a_birth, a_function, a_method, an_instance, a_class, target_leads}

-- what a call leads to
abbrev pub callee_said : callees.Callee → Callee
callee_said (code.Birth at) = a_birth at
callee_said (code.Function place name) = a_function place name
callee_said (code.Method class name) = a_method class name
callee_said (code.Instance class one) = an_instance class one
callee_said (code.Class class) = a_class class

-- what a name leads to where this is seen
abbrev pub leads_seen : Sight → Note → Unit {0} → Bytes → List Callee
leads_seen sight note c name = target_leads (slots.modules sight.program.now) note
    (find name sight.names.now.callables)

-- what is held of what leads to what: the keys by number
abbrev pub keys_in : Web → List (List ℕ)
keys_in w = map numbers w.keys.keys

-- arcs between nodes that the edges hold, by numbers
abbrev pub HoldsArcs : Web → List (Node × Node) → Type 0
HoldsArcs w arcs = AreEdges w.count (keys_in w) arcs w.edges.items

-- keys stand once each
abbrev pub AreOnce : List (List ℕ) → Type 0
AreOnce keys = (i j : ℕ) (key : List ℕ) → slice_get keys i ≡ Some key → slice_get keys j ≡ Some key → i ≡ j

-- What a step adds to what is held: arcs and births. Numbers that were given stay.
pub record Grows (arcs : List (Node × Node)) (pairs : List (ℕ × ℕ)) (old new : Web) : Type 0 where
  pub count : new.count ≡ old.count
  pub keys : (i : ℕ) (key : List ℕ) → slice_get (keys_in old) i ≡ Some key → slice_get (keys_in new) i
      ≡ Some key
  pub once : AreOnce (keys_in old) → AreOnce (keys_in new)
  pub edges : (all : List (Node × Node)) → HoldsArcs old all → HoldsArcs new (all ++ arcs)
  pub births : new.births.items ≡ old.births.items ++ pairs

-- What is held is that of bodies, of so many: arcs between them by numbers, and who gives birth to which
-- head.
pub record IsWebOf (program : List ModuleParts) (r : Reaching) (many : ℕ) (bodies : List Bodied) (w : Web)
    : Type 0 where
  pub count : w.count ≡ many
  pub once : AreOnce (keys_in w)
  pub arcs : HoldsArcs w (arcs_from program 0 bodies)
  pub births : w.births.items ≡ births_from program r 0 bodies

-- one of the labels of a number is the place of this head
abbrev pub HasLabel : List ModuleParts → Reaching → List (List ℕ) → ℕ → Bytes → Type 0
HasLabel program r made number h = (l : ℕ) × IsHeadAt program r l h × Names made number l

-- the labels of a number are the places of the heads that a body may make
abbrev pub IsLabelled : List ModuleParts → List NotedParts → Reaching → List (List ℕ) → Bodied → ℕ → Type 0
IsLabelled program noted r made b number =
    (h : Bytes) → HasLabel program r made number h ↔ BodyMakes program noted b h

-- those of the number of each body are
abbrev pub AreLabelled : List ModuleParts → List NotedParts → Reaching → List Bodied → List (List ℕ) → Type 0
AreLabelled program noted r bodies made =
    (i : ℕ) (b : Bodied) → slice_get bodies i ≡ Some b → IsLabelled program noted r made b i
