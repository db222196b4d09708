-- A few lists of type parameters, and what they mean by hand.
use Rattle.std.specs.Prelude.{ℕ, List, [], ◌∷◌, codes}
use Rattle.au_base.specs.declared.places.Pos.{Pos}
use Rattle.au_syntax.specs.declared.declarations.Universe.{Universe}
use Rattle.au_syntax.specs.declared.declarations.Universe.TheVariants as universes
use Rattle.au_syntax.specs.Modules.{Constrained}
use Rattle.au_syntax.specs.Names.{Placed}
use Rattle.au_syntax.specs.Plain.{Bytes}
use Rattle.au_types.specs.declared.headings.Head.{Head}
use Rattle.au_types.specs.declared.types.DeclAt.{DeclAt}
use Rattle.au_judged_types.specs.declared.reading.Meant.{Meant}
use Rattle.au_judged_types.specs.declared.reading.Meant.TheVariants.{Are, Fails}
use Rattle.au_judged_types.specs.declared.reading.Misfit.TheVariants.{NoClass, OfRegion}
use Rattle.au_judged_types.specs.Bounds.{Bounded}

-- two classes and a declared type, which are visible
abbrev pub shown : DeclAt
shown = record { «module» = 0; decl = 7 }

abbrev pub ordered : DeclAt
ordered = record { «module» = 4; decl = 2 }

abbrev pub pair : DeclAt
pair = record { «module» = 4; decl = 0 }

abbrev pub seen : List (Bytes × DeclAt)
seen = (codes "Shown", shown) ∷ (codes "Ordered", ordered) ∷ (codes "Pair", pair) ∷ []

abbrev pub rows : List (DeclAt × Head)
rows = (pair, record { text = codes "Main:Pair"; universe = universes.Free; params = [] }) ∷ []

-- a name at a column of the first line
abbrev pub at_column : ℕ → Pos
at_column column = record { file = 0; line = 1; column = column }

abbrev pub put : Bytes → ℕ → Placed Bytes
put name column = record { name = name; at = at_column column }

-- a type parameter that is written, and one that is meant
abbrev pub written_as : Placed Bytes → Universe → List (Placed Bytes) → Constrained Bytes
written_as name universe classes = record {
  parameter = record { name = name; universe = universe };
  classes = classes;
}

abbrev pub meant_as : Bytes → Universe → List DeclAt → Bounded
meant_as name universe classes = record {
  parameter = record { name = name; universe = universe };
  classes = classes;
}

-- a type parameter with these constraints, which begins at column 10
abbrev pub first : Universe → List (Placed Bytes) → Constrained Bytes
first universe classes = written_as (put (codes "T") 10) universe classes

-- a type parameter with two classes, beside a region
abbrev pub two : List Bounded
two =
    meant_as (codes "T") universes.Free (shown ∷ ordered ∷ [])
    ∷ meant_as (codes "R") universes.Region []
    ∷ []

-- type parameters, and what they mean
pub record Example : Type 0 where
  pub written : List (Constrained Bytes)
  pub means : Meant

-- Nothing; a type parameter with two classes beside a region; a class that means nothing; a declared type, a
-- built-in name and a type parameter in the place of a class; a region with constraints, before its names
-- are looked at; and two type parameters of which the second fails, beside a third that would.
abbrev pub examples : List Example
examples =
    record { written = []; means = Are [] }
    ∷ record {
      written =
          first universes.Free (put (codes "Shown") 18 ∷ put (codes "Ordered") 25 ∷ [])
          ∷ written_as (put (codes "R") 35) universes.Region []
          ∷ [];
      means = Are two;
    }
    ∷ record {
      written = first universes.Free (put (codes "Shown") 18 ∷ put (codes "Other") 25 ∷ []) ∷ [];
      means = Fails (NoClass (at_column 25));
    }
    ∷ record {
      written = first universes.Free (put (codes "Pair") 18 ∷ put (codes "Other") 25 ∷ []) ∷ [];
      means = Fails (NoClass (at_column 18));
    }
    ∷ record {
      written = first universes.AnyType (put (codes "Nat8") 18 ∷ []) ∷ [];
      means = Fails (NoClass (at_column 18));
    }
    ∷ record {
      written =
          first universes.Linear (put (codes "Shown") 18 ∷ [])
          ∷ written_as (put (codes "Shown") 27) universes.Free []
          ∷ [];
      means = Fails (NoClass (at_column 18));
    }
    ∷ record {
      written = first universes.Region (put (codes "Other") 18 ∷ []) ∷ [];
      means = Fails (OfRegion (at_column 10));
    }
    ∷ record {
      written =
          first universes.Free (put (codes "Shown") 18 ∷ [])
          ∷ written_as (put (codes "U") 27) universes.Free (put (codes "Pair") 30 ∷ [])
          ∷ written_as (put (codes "R") 40) universes.Region (put (codes "Shown") 43 ∷ [])
          ∷ [];
      means = Fails (NoClass (at_column 30));
    }
    ∷ []
