-- A small report, and its text by hand.
use Rattle.std.specs.Prelude.{ℕ, List, [], ◌∷◌, ◌++◌, codes}
use Rattle.std.specs.List.{flat_map}
use Rattle.au_caps_text.specs.declared.reports.Report.{Report}

-- a function that makes nothing and one that takes the terminal from the root
abbrev pub small : Report
small = record {
  rows = record {
    function = codes "Echo:step";
    makes = [];
    holds = codes "Standard.IO.Terminal:Terminal" ∷ [];
    hands = codes "Standard.IO.Terminal:Terminal" ∷ [];
  }
      ∷ record {
        function = codes "Echo:main";
        makes = codes "Standard.IO.Terminal:Terminal" ∷ [];
        holds = codes "Austral.Pervasive:RootCapability" ∷ codes "Standard.IO.Terminal:Terminal" ∷ [];
        hands = [];
      }
      ∷ [];
}

-- what is told of them
abbrev pub told : List ℕ
told =
    flat_map (λ (line : List ℕ). line ++ 10 ∷ [])
    (
    codes "Echo:step"
    ∷ codes "  makes"
    ∷ codes "  holds Standard.IO.Terminal:Terminal"
    ∷ codes "  hands Standard.IO.Terminal:Terminal"
    ∷ codes "Echo:main"
    ∷ codes "  makes Standard.IO.Terminal:Terminal"
    ∷ codes "  holds Austral.Pervasive:RootCapability Standard.IO.Terminal:Terminal"
    ∷ codes "  hands"
    ∷ []
    )
