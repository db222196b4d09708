-- The elements of a buffer behind a read reference are seen, and copied.
use Rattle.std.proofs.Common.{◌≡◌, ℕ, Bool, true, List, ◌∷◌, sym, ap, subst, ◌∙◌}
use Rattle.std.specs.Prelude.{Some}
use Rattle.au_places.specs.Memories.{Memory}
use Rattle.au_running_types.specs.Running.{token}
use Rattle.au_types.specs.Types as meaning
use Rattle.au_types.specs.Types.{Meaning}
use Rattle.au_memory.specs.Trees.{Value}
use Rattle.au_memory.specs.Loans.{Types, Table}
use Rattle.au_memory.specs.Shown.{Shows, Has, AreDeclared}
use Rattle.au_memory.specs.Forests.{Holds, Made, Core}
use Rattle.au_memory.proofs.FreeLemmas.{free_in}
use Rattle.au_lending.specs.Buffers.{BuffersAreAlone, SeesItems}
use Rattle.au_lending.proofs.ItemLemmas.{one_item}
use Rattle.au_lending.proofs.RefillLemmas.{buffer_form}
use Rattle.au_lending.proofs.SeenLemmas.{gone, gone_counts, sees}
use Rattle.au_lending.proofs.ValueLemmas.{pushed}

module _ (types : Types) (forms : AreDeclared types) (buffers : BuffersAreAlone types) (clock : ℕ)
    (scope act : ℕ → Bool) (hold : Holds) (type : ℕ → ℕ → Meaning) (r : Value) (t : Meaning) (z : ℕ) (under : Made)
    (s : Table) (m : Memory (List ℕ))
    (core : Core types clock scope act hold type ((r, meaning.reads t (token z)) ∷ under) s m) where
  pub items_seen : (of : Meaning) → types.buffered t ≡ Some of → scope z ≡ true
      → SeesItems types clock scope act hold type r t z under s m core of
  items_seen of is scoped =
      let see = sees types forms clock scope act hold type r t z under s m core scoped in
      let typed : Has types s see.one.tree t =
      subst (λ u. Has types s see.one.tree u) (sym see.typed) see.stands.typed in
      let form = buffer_form types forms buffers s see.one.tree t of is typed in
      let shown = subst (λ tree. Shows types s m see.stands.value tree) form.is see.stands.shown in
      let ended = gone types forms clock scope act hold type r t z under s m core in
      record {
        born = form.born;
        items = shown.0;
        leads = record {
          borrow = see.row.borrow;
          to = see.one.to;
          is = see.is;
          there = see.stands.there ∙ ap Some shown.1;
          holds = shown.2;
        };
        copied = λ lawful free front back v split.
            let one = one_item types s m v front back shown.0 form.all of split shown.3 form.typed in
            let now = pushed types clock scope act hold type under s m ended.after v of one.tree one.own one.own_typed
            (λ id. free_in types lawful s id one.tree of free one.own_typed) in
            record {
              after = now.after;
              counts = λ id.
                  now.counts id ∙ gone_counts types forms clock scope act hold type r t z under s m core id;
            };
      }
