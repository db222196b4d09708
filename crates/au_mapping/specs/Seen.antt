-- What a walk keeps of a tree, in the phase before it and in the phase after it.
use Rattle.au_syntax.specs.declared.phases.Phase as phase
use Rattle.au_mapping.specs.declared.walks.Walk.{Ghosts}

module _ {W X Y N T C M U D : Type 0} (w : Ghosts W X Y N T C M U D) where
  -- a tree of the old phase, by what is kept of it
  abbrev pub before : phase.Ghosts X N T C
  before = record {
    SeenName = w.KeptName;
    SeenType = w.KeptType;
    SeenCall = w.KeptCall;
    see_name = w.old_name;
    see_type = w.old_type;
    see_call = w.old_call;
    name_bytes = w.bytes;
    allows_type = w.allows_type;
    allows_call = w.allows_call;
  }

  -- a tree of the new phase, by what is kept of it
  abbrev pub after : phase.Ghosts Y M U D
  after = record {
    SeenName = w.KeptName;
    SeenType = w.KeptType;
    SeenCall = w.KeptCall;
    see_name = w.new_name;
    see_type = w.new_type;
    see_call = w.new_call;
    name_bytes = w.bytes;
    allows_type = w.allows_type;
    allows_call = w.allows_call;
  }
