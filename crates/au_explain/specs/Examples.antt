-- The lives of a small program, and their text by hand.
use Rattle.std.specs.Prelude.{ℕ, List, [], ◌∷◌, None, Some, codes}
use Rattle.std.specs.List.{flat_map}
use Rattle.au_base.specs.declared.places.Pos.{Pos}
use Rattle.au_explain.specs.declared.lists.Lives.{Lives}
use Rattle.au_explain.specs.declared.lists.MentionKind.TheVariants as kinds
use Rattle.au_explain.specs.Lines.{line_of}

-- a place in the first file
abbrev pub at : ℕ → ℕ → Pos
at line column = record { file = 0; line = line; column = column }

-- a function without variables, and one whose variable is lent and then consumed on two paths
abbrev pub small : Lives
small = record {
  functions = record { name = codes "M:g"; variables = [] }
      ∷ record {
        name = codes "M:f";
        variables = record {
          name = codes "x";
          at = at 3 12;
          of = codes "M:L";
          mentions = record { kind = kinds.Read; at = at 4 8; until = Some (at 6 1) }
              ∷ record { kind = kinds.Consumed; at = at 8 20; until = None }
              ∷ record { kind = kinds.Consumed; at = at 11 25; until = None }
              ∷ [];
        }
            ∷ [];
      }
      ∷ [];
}

-- what is told of them
abbrev pub told : List ℕ
told =
    flat_map line_of
    (
    codes "M:f"
    ∷ codes "  x: M:L"
    ∷ codes "    3:12 born"
    ∷ codes "    4:8 read to 6:1"
    ∷ codes "    8:20 consumed"
    ∷ codes "    11:25 consumed"
    ∷ []
    )
