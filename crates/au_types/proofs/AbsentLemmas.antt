-- The declarations that bring in no name of a space: those that are none of the forms which do.
use Rattle.std.proofs.Common.{◌≡◌, ℕ, List, [], Vec, refl, ap, sym, ◌∙◌}
use Rattle.std.specs.Global.{Global}
use Rattle.std.specs.declared.boxed.Box.{Box}
use Rattle.au_base.specs.declared.places.Pos.{Pos}
use Rattle.au_syntax.specs.declared.phases.Phase.{Ghosts}
use Rattle.au_syntax.specs.declared.names.Ident.{Ident}
use Rattle.au_syntax.specs.declared.names.Field.{Field}
use Rattle.au_syntax.specs.declared.types.TypeText.{TypeText}
use Rattle.au_syntax.specs.declared.expressions.Expr.{Expr}
use Rattle.au_syntax.specs.declared.statements.Block.{Block}
use Rattle.au_syntax.specs.declared.declarations.Universe.{Universe}
use Rattle.au_syntax.specs.declared.declarations.TypeParameter.{TypeParameter}
use Rattle.au_syntax.specs.declared.declarations.Generic.{Generic}
use Rattle.au_syntax.specs.declared.declarations.Signature.{Signature}
use Rattle.au_syntax.specs.declared.declarations.UnionCase.{UnionCase}
use Rattle.au_syntax.specs.declared.declarations.Decl.{Decl}
use Rattle.au_syntax.specs.declared.declarations.Decl.TheVariants as code
use Rattle.au_syntax.specs.Plain.{Bytes, plain_declaration}
use Rattle.au_syntax.specs.Views.{declaration}
use Rattle.au_types.specs.DeclaredNames.{callable_names, given, type_names, value_names}
use Rattle.au_types.specs.Tables.{with_all}
use Rattle.au_types.proofs.TableLemmas.{with_all-none}

-- where no name is brought in, the table stays
pub puts_none : (table : List (Bytes × ℕ)) (number : ℕ) (names : List Bytes) → names ≡ []
    → table ≡ with_all table (given number names)
puts_none table number names none =
    sym (ap (λ r. with_all table (given number r)) none ∙ with_all-none table)

module _ {X N T C : Type 0} (g : Ghosts X N T C) where
  -- neither a constant nor its body
  pub no_value : (d : Decl X N T C)
      → ((at : Pos) (n : Ident X N T C) (t : TypeText) → d ≡ code.Constant at n t → ⊥)
      → ((at : Pos) (n : Ident X N T C) (t : TypeText) (e : Box (Expr X N T C) Global)
      → d ≡ code.ConstantBody at n t e → ⊥)
      → value_names (plain_declaration g.name_bytes (declaration g d)) ≡ []
  unfolding declaration
  no_value (code.Constant at n t) a b = absurd (a at n t refl)
  no_value (code.ConstantBody at n t e) a b = absurd (b at n t e refl)
  no_value d a b = refl

  -- no record, union, function, body of a function or class
  pub no_callable : (d : Decl X N T C)
      → ((at : Pos) (n : Ident X N T C) (ps : Vec (TypeParameter X N T C) Global) (u : Universe)
      (fs : Vec (Field X N T C) Global) → d ≡ code.Record at n ps u fs → ⊥)
      → ((at : Pos) (n : Ident X N T C) (ps : Vec (TypeParameter X N T C) Global) (u : Universe)
      (cs : Vec (UnionCase X N T C) Global) → d ≡ code.Union at n ps u cs → ⊥)
      → ((at : Pos) (gs : Vec (Generic X N T C) Global) (s : Signature X N T C)
      → d ≡ code.Function at gs s → ⊥)
      → ((at : Pos) (gs : Vec (Generic X N T C) Global) (s : Signature X N T C) (b : Block X N T C)
      (stop : Pos) → d ≡ code.FunctionBody at gs s b stop → ⊥)
      → ((at : Pos) (n : Ident X N T C) (p : TypeParameter X N T C) (ms : Vec (Signature X N T C) Global)
      → d ≡ code.Class at n p ms → ⊥)
      → callable_names (plain_declaration g.name_bytes (declaration g d)) ≡ []
  unfolding declaration
  no_callable (code.Record at n ps u fs) r v f b c = absurd (r at n ps u fs refl)
  no_callable (code.Union at n ps u cs) r v f b c = absurd (v at n ps u cs refl)
  no_callable (code.Function at gs s) r v f b c = absurd (f at gs s refl)
  no_callable (code.FunctionBody at gs s e stop) r v f b c = absurd (b at gs s e stop refl)
  no_callable (code.Class at n p ms) r v f b c = absurd (c at n p ms refl)
  no_callable d r v f b c = refl

  -- no opaque type, record, union or class
  pub no_type : (d : Decl X N T C)
      → ((at : Pos) (n : Ident X N T C) (ps : Vec (TypeParameter X N T C) Global) (u : Universe)
      → d ≡ code.Opaque at n ps u → ⊥)
      → ((at : Pos) (n : Ident X N T C) (ps : Vec (TypeParameter X N T C) Global) (u : Universe)
      (fs : Vec (Field X N T C) Global) → d ≡ code.Record at n ps u fs → ⊥)
      → ((at : Pos) (n : Ident X N T C) (ps : Vec (TypeParameter X N T C) Global) (u : Universe)
      (cs : Vec (UnionCase X N T C) Global) → d ≡ code.Union at n ps u cs → ⊥)
      → ((at : Pos) (n : Ident X N T C) (p : TypeParameter X N T C) (ms : Vec (Signature X N T C) Global)
      → d ≡ code.Class at n p ms → ⊥)
      → type_names (plain_declaration g.name_bytes (declaration g d)) ≡ []
  unfolding declaration
  no_type (code.Opaque at n ps u) o r v c = absurd (o at n ps u refl)
  no_type (code.Record at n ps u fs) o r v c = absurd (r at n ps u fs refl)
  no_type (code.Union at n ps u cs) o r v c = absurd (v at n ps u cs refl)
  no_type (code.Class at n p ms) o r v c = absurd (c at n p ms refl)
  no_type d o r v c = refl
