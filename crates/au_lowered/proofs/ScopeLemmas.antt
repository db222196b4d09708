-- Scopes with more in them.
use Rattle.std.proofs.Common.{◌≡◌, ℕ, ◌+◌, ◌≤◌, List, ◌∷◌, Option, arith}
use Rattle.au_type_texts.specs.Types.{ClosedType}
use Rattle.au_syntax.specs.Plain.{Bytes}
use Rattle.au_lowered.specs.Scopes.{Entry, variable, kept as keeps, Scoped}
use Rattle.au_lowered.specs.Sides.{Coding, Both}
use Rattle.au_lowered.proofs.FrameLemmas.{number_free, slot_free, under_more}

module _ (by : Coding) where
  -- one more variable
  pub scoped_more : (number slot : ℕ) (scope : List (Entry by)) → Scoped by number slot scope
      → by.slot number ≡ slot → (name : Bytes) (of : Option ClosedType)
      → Scoped by (number + 1) (slot + 1) (variable name number slot of ∷ scope)
  scoped_more number slot scope scoped home name of = record {
    distinct = (
      number_free by number slot number scope scoped.under (omega arith),
      slot_free by number slot slot scope scoped.under (omega arith),
      home,
      scoped.distinct,
    );
    under = (
      omega arith,
      omega arith,
      under_more by number slot (number + 1) (slot + 1) scope (omega arith) (omega arith) scoped.under,
    );
  }

  -- the next number is a later one
  pub more_numbers : (number slot number2 : ℕ) (scope : List (Entry by)) → number ≤ number2
      → Scoped by number slot scope → Scoped by number2 slot scope
  more_numbers number slot number2 scope le scoped =
      record {
        distinct = scoped.distinct;
        under = under_more by number slot number2 slot scope le (omega
            arith) scoped.under;
      }

  -- a slot that keeps a value
  pub scoped_kept : (number slot : ℕ) (scope : List (Entry by)) → Scoped by number slot scope → (a : Both by)
      → Scoped by number (slot + 1) (keeps slot a ∷ scope)
  scoped_kept number slot scope scoped a = record {
    distinct = (slot_free by number slot slot scope scoped.under (omega arith), scoped.distinct);
    under = (
      omega arith,
      under_more by number slot number (slot + 1) scope (omega arith) (omega arith)
          scoped.under,
    );
  }
