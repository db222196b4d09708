-- The regions of references are tokens.
use Rattle.std.proofs.Common.{◌≡◌, ℕ, List, [], ◌∷◌, ◌++◌, length, sym, subst}
use Rattle.au_places.specs.Memories.{Memory}
use Rattle.au_running_types.specs.Running.{token}
use Rattle.au_types.specs.declared.types.Region.{Region}
use Rattle.au_types.specs.Types as meaning
use Rattle.au_types.specs.Types.{Meaning}
use Rattle.au_memory.specs.Forests.{AreShown, Made}
use Rattle.au_memory.specs.Loans.{Table, Types}
use Rattle.au_memory.specs.Shown.{AreDeclared, Has}
use Rattle.au_memory.specs.Trees.{Tree, Value}
use Rattle.au_memory.proofs.FormLemmas.{reader_form, writer_form}
use Rattle.au_lending.specs.Laws.{IsReadable}
use Rattle.au_lending.proofs.LookLemmas.{readable_stands}
use Rattle.au_lending.proofs.RowLemmas.{find}
use Rattle.au_safe_acts.specs.Orders.{is_active}
use Rattle.au_safe_acts.specs.Stores.{memory_of}
use Rattle.au_safe_acts.specs.Frames.{hold_at, type_at}
use Rattle.au_safe_acts.proofs.FrameLemmas.{own_hold, own_type}
use Rattle.au_safe_steps.specs.Regions.{IsToken, NamesHaveTokens, ReferencesHaveTokens}

module _ (types : Types) (forms : AreDeclared types) (s : Table) where
  reader_token : (tree : Tree) (t : Meaning) (region : Region) → Has types s tree (meaning.reads t region)
      → IsToken region
  reader_token tree t region has =
      let form = reader_form types forms s tree t region has in
      let e = form.typed in
      let is : region ≡ token form.row.token = cc in
      (form.row.token, is)

  writer_token : (tree : Tree) (t : Meaning) (region : Region) → Has types s tree (meaning.writes t region)
      → IsToken region
  writer_token tree t region has =
      let form = writer_form types forms s tree t region has in
      let e = form.typed in
      let is : region ≡ token form.row.token = cc in
      (form.row.token, is)

-- a value below others has a tree of its type
tree_below : (types : Types) (s : Table) (m : Memory (List ℕ)) (v : Value) (t : Meaning) (under newer : Made)
    (trees : List Tree) → AreShown types s m (newer ++ (v, t) ∷ under) trees → (tree : Tree) × Has types s tree t
tree_below types s m v t under [] [] h = absurd h
tree_below types s m v t under [] (tree ∷ rest) h = (tree, h.1)
tree_below types s m v t under (one ∷ newer) [] h = absurd h
tree_below types s m v t under (one ∷ newer) (tree ∷ rest) h = tree_below types s m v t under newer rest h.2

pub references_have_tokens : ReferencesHaveTokens
references_have_tokens types owner acts fs sizes newer under w typed v t region = (
  λ state.
      let core = state.safe.inv.core in
      let below = tree_below types state.safe.rows (memory_of w.store) v (meaning.reads t region) under newer core.trees
      core.shown in
      reader_token types typed.forms state.safe.rows below.0 t region below.1,
  λ state.
      let core = state.safe.inv.core in
      let below = tree_below types state.safe.rows (memory_of w.store) v (meaning.writes t region) under newer core.trees
      core.shown in
      writer_token types typed.forms state.safe.rows below.0 t region below.1,
)

pub names_have_tokens : NamesHaveTokens
names_have_tokens types owner acts f fs sizes under w typed x t region is state =
    let s = state.safe.rows in
    let inv = state.safe.inv in
    let core = inv.core in
    let m = memory_of w.store in
    let k = length fs in
    let hold = hold_at (f ∷ fs) in
    let type = type_at (f ∷ fs) in
    let own = readable_stands types s core.forest m core.root k x (type k x) (hold k x)
    (subst IsReadable (sym (own_hold f fs x)) is) (core.names k x) in
    let found = find types inv.clock (is_active acts) (is_active acts) hold type under s m core k x own.0 own.1 in
    let has : Has types s found.tree (f.type x) =
    subst (λ (u : Meaning). Has types s found.tree u) (own_type f fs x) found.typed in (
      λ kind. reader_token types typed.forms s found.tree t region
          (subst (λ (u : Meaning). Has types s found.tree u) kind has),
      λ kind. writer_token types typed.forms s found.tree t region
          (subst (λ (u : Meaning). Has types s found.tree u) kind has),
    )
