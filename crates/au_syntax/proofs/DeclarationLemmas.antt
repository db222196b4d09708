-- What declarations of the code say, variant by variant. The view is opaque; these equations stand for it.
use Rattle.std.proofs.Common.{◌≡◌, map, Vec, refl}
use Rattle.std.specs.Global.{Global}
use Rattle.std.specs.declared.boxed.Box.{Box}
use Rattle.au_base.specs.declared.places.Pos.{Pos}
use Rattle.au_syntax.specs.declared.phases.Phase.{Ghosts}
use Rattle.au_syntax.specs.declared.names.Ident.{Ident}
use Rattle.au_syntax.specs.declared.names.Field.{Field}
use Rattle.au_syntax.specs.declared.types.TypeText.{TypeText}
use Rattle.au_syntax.specs.declared.expressions.Expr.{Expr}
use Rattle.au_syntax.specs.declared.statements.Block.{Block}
use Rattle.au_syntax.specs.declared.declarations.Universe.{Universe}
use Rattle.au_syntax.specs.declared.declarations.TypeParameter.{TypeParameter}
use Rattle.au_syntax.specs.declared.declarations.Generic.{Generic}
use Rattle.au_syntax.specs.declared.declarations.Signature.{Signature}
use Rattle.au_syntax.specs.declared.declarations.UnionCase.{UnionCase}
use Rattle.au_syntax.specs.declared.declarations.Method.{Method}
use Rattle.au_syntax.specs.declared.declarations.Decl.TheVariants as code
use Rattle.au_syntax.specs.Modules.{constant, opaque_type, record_type, union_type, function, class, instance}
use Rattle.au_syntax.specs.Modules.{constant_body, function_body, instance_body}
use Rattle.au_syntax.specs.Views.{written, placed, labelled, expression, block, in_universe, constrained}
use Rattle.au_syntax.specs.Views.{header, variant, method_body, declaration}

module _ {X N T C : Type 0} (g : Ghosts X N T C) where
  pub constant_says : (at : Pos) (n : Ident X N T C) (t : TypeText) → declaration g (code.Constant at n t)
      ≡ constant at (placed g n) (written t)
  unfolding declaration
  constant_says at n t = refl

  pub opaque_says : (at : Pos) (n : Ident X N T C) (ps : Vec (TypeParameter X N T C) Global) (u : Universe) →
      declaration g (code.Opaque at n ps u) ≡ opaque_type at (placed g n) (map (in_universe g) ps.items) u
  unfolding declaration
  opaque_says at n ps u = refl

  pub record_says : (at : Pos) (n : Ident X N T C) (ps : Vec (TypeParameter X N T C) Global) (u : Universe)
      (fs : Vec (Field X N T C) Global) → declaration g (code.Record at n ps u fs) ≡ record_type at (placed g n)
      (map (in_universe g) ps.items) u (map (labelled g) fs.items)
  unfolding declaration
  record_says at n ps u fs = refl

  pub union_says : (at : Pos) (n : Ident X N T C) (ps : Vec (TypeParameter X N T C) Global) (u : Universe)
      (cs : Vec (UnionCase X N T C) Global) → declaration g (code.Union at n ps u cs)
      ≡ union_type at (placed g n) (map (in_universe g) ps.items) u (map (variant g) cs.items)
  unfolding declaration
  union_says at n ps u cs = refl

  pub function_says : (at : Pos) (gs : Vec (Generic X N T C) Global) (s : Signature X N T C) →
      declaration g (code.Function at gs s) ≡ function at (map (constrained g) gs.items) (header g s)
  unfolding declaration
  function_says at gs s = refl

  pub class_says : (at : Pos) (n : Ident X N T C) (p : TypeParameter X N T C)
      (ms : Vec (Signature X N T C) Global) → declaration g (code.Class at n p ms) ≡ class at (placed g n)
      (in_universe g p) (map (header g) ms.items)
  unfolding declaration
  class_says at n p ms = refl

  pub instance_says : (at : Pos) (gs : Vec (Generic X N T C) Global) (n : Ident X N T C) (t : TypeText) →
      declaration g (code.Instance at gs n t) ≡ instance at (map (constrained g) gs.items) (placed g n)
      (written t)
  unfolding declaration
  instance_says at gs n t = refl

  pub constant_body_says : (at : Pos) (n : Ident X N T C) (t : TypeText) (e : Box (Expr X N T C) Global) →
      declaration g (code.ConstantBody at n t e) ≡ constant_body at (placed g n) (written t)
      (expression g e.value)
  unfolding declaration
  constant_body_says at n t e = refl

  pub function_body_says : (at : Pos) (gs : Vec (Generic X N T C) Global) (s : Signature X N T C)
      (b : Block X N T C) (stop : Pos) → declaration g (code.FunctionBody at gs s b stop) ≡ function_body at
      (map (constrained g) gs.items) (header g s) (block g b) stop
  unfolding declaration
  function_body_says at gs s b stop = refl

  pub instance_body_says : (at : Pos) (gs : Vec (Generic X N T C) Global) (n : Ident X N T C) (t : TypeText)
      (ms : Vec (Method X N T C) Global) → declaration g (code.InstanceBody at gs n t ms) ≡ instance_body at
      (map (constrained g) gs.items) (placed g n) (written t) (map (method_body g) ms.items)
  unfolding declaration
  instance_body_says at gs n t ms = refl

pub ruleset declaration_steps = (
  constant_says,
  opaque_says,
  record_says,
  union_says,
  function_says,
  class_says,
  instance_says,
  constant_body_says,
  function_body_says,
  instance_body_says,
)
