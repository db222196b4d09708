-- A name is lent to write.
use Rattle.std.proofs.Common.{inl, ℕ, Bool, List, [], refl, sym, subst}
use Rattle.au_effects.specs.References.{name_along}
use Rattle.au_places.specs.Memories.{Memory}
use Rattle.au_types.specs.Types.{Meaning}
use Rattle.au_memory.specs.Loans.{Types, Table, lent_of, IsLoan}
use Rattle.au_memory.specs.Forests.{Holds, Made, Core, IsFull, NameStands}
use Rattle.au_lending.specs.Laws.{NamesLend}
use Rattle.au_lending.proofs.LendLemmas.{lent_all}
use Rattle.au_lending.proofs.RowLemmas.{find, one_root}

module _ (types : Types) (clock : ℕ) (scope act : ℕ → Bool) (hold : Holds) (type : ℕ → ℕ → Meaning)
    (under : Made) (s : Table) (m : Memory (List ℕ)) (core : Core types clock scope act hold type under s m)
    (frame x b z : ℕ) where
  pub name_lends : NamesLend types clock scope act hold type under s m core frame x b z
  name_lends is active =
      let stands = subst (λ h. NameStands types s core.forest m core.root frame x (type frame x) h) is
      (core.names frame x) in
      let own = stands.0 in
      let found = find types clock scope act hold type under s m core frame x own stands.1 in
      let full : IsFull (hold frame x) = subst IsFull (sym is) tt in (
        own.row,
        own.has,
        own.typed,
        own.at,
        lent_all types clock scope act hold type under s m core frame x is b z active (core.root frame x) own.row own.has
            (name_along frame x []) found.tree found.here (lent_of (core.root frame x)) (inl refl) refl
            (λ loan. absurd (subst IsLoan own.is_named loan))
            (λ a y other there same. let one = one_root types clock scope act hold type under s m core frame x a y full there
            (sym same) in cc)
            (λ holder e. absurd cc),
      )
