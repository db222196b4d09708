-- What is kept of a tree where its phase changes: the bytes of its names, and that each note is allowed.
use Rattle.std.specs.Prelude.{ℕ, Bool, true, List}
use Rattle.au_syntax.specs.declared.phases.Phase.{Ghosts}

module _ {X N T C : Type 0} (g : Ghosts X N T C) where
  -- a tree by the bytes of its names, and by a mark for each note
  abbrev pub by_marks : (g.SeenType → Bool) → (g.SeenCall → Bool) → Ghosts X N T C
  by_marks of_type of_call = record {
    SeenName = List ℕ;
    SeenType = Bool;
    SeenCall = Bool;
    see_name = λ name. g.name_bytes (g.see_name name);
    see_type = λ note. of_type (g.see_type note);
    see_call = λ note. of_call (g.see_call note);
    name_bytes = λ name. name;
    allows_type = λ mark. mark;
    allows_call = λ mark. mark;
  }

  -- a tree of the new phase: the mark of a note is whether the phase allows it
  abbrev pub marked : Ghosts X N T C
  marked = by_marks g.allows_type g.allows_call

  -- a tree of the old phase: each note stands for one that is allowed
  abbrev pub wanted : Ghosts X N T C
  wanted = by_marks (λ note. true) (λ note. true)
