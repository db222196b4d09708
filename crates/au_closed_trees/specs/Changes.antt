-- What becomes of the notes of a tree, and of the names of its arms.

-- What the note of an expression becomes, and that of one that mentions a name as a value or parts of what
-- has the name, by the name; and what the note of a call becomes, by the note of its expression and the name
-- that is called. What stands behind `when` becomes another name.
pub record Change (N T C U D : Type 0) : Type 0 where
  pub note : T → U
  pub mention : T → N → U
  pub callee : T → C → N → D
  pub arm : N → N
