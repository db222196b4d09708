-- What declarations of the code neither promise nor define, by the forms that they haven't.
use Rattle.std.proofs.Common.{◌≡◌, ℕ, false, List, None, Vec, refl}
use Rattle.std.specs.Global.{Global}
use Rattle.std.specs.declared.boxed.Box.{Box}
use Rattle.au_base.specs.declared.places.Pos.{Pos}
use Rattle.au_syntax.specs.declared.declarations.Decl.{Decl}
use Rattle.au_syntax.specs.declared.declarations.Decl.TheVariants as code
use Rattle.au_syntax.specs.declared.declarations.Generic.{Generic}
use Rattle.au_syntax.specs.declared.declarations.Method.{Method}
use Rattle.au_syntax.specs.declared.declarations.Signature.{Signature}
use Rattle.au_syntax.specs.declared.declarations.TypeParameter.{TypeParameter}
use Rattle.au_syntax.specs.declared.declarations.UnionCase.{UnionCase}
use Rattle.au_syntax.specs.declared.declarations.Universe.{Universe}
use Rattle.au_syntax.specs.declared.expressions.Expr.{Expr}
use Rattle.au_syntax.specs.declared.names.Field.{Field}
use Rattle.au_syntax.specs.declared.names.Ident.{Ident}
use Rattle.au_syntax.specs.declared.parsed.Parsed.{Parsed}
use Rattle.au_syntax.specs.declared.statements.Block.{Block}
use Rattle.au_syntax.specs.declared.types.TypeText.{TypeText}
use Rattle.au_syntax.specs.Modules.{InUniverse, Constrained, Header}
use Rattle.au_syntax.specs.Plain.{Bytes, PlainDeclaration}
use Rattle.au_syntax.specs.Types.{WrittenType}
use Rattle.au_syntax.specs.Views.{declaration}
use Rattle.au_promises.specs.declared.keys.KeySort.{KeySort}
use Rattle.au_promises.specs.Agreeing.{Sight}
use Rattle.au_promises.specs.Defining.{key_defined}
use Rattle.au_promises.specs.Promises.{
  constant_defined,
  defines,
  function_defined,
  keeps,
  keeps_constant,
  keeps_function,
  keeps_instance,
  keeps_type,
  promised,
  type_defined,
}
use Rattle.au_promises.specs.Written.{declared_of}

-- a part of the trees of the code, as it is parsed
abbrev Of : (Type 0 → Type 0 → Type 0 → Type 0 → Type 0) → Type 0
Of Part = Part Parsed (List ℕ) (Unit {0}) (Unit {0})

-- a list of parts
abbrev Many : (Type 0 → Type 0 → Type 0 → Type 0 → Type 0) → Type 0
Many Part = Vec (Of Part) Global

-- one that is no constant of a body
pub no_constant : (d : Of Decl)
    → ((at : Pos) (n : Of Ident) (t : TypeText) (e : Box (Of Expr) Global)
    → d ≡ code.ConstantBody at n t e → ⊥)
    → (constant_defined (declared_of d) ≡ None)
    × ((sight : Sight) (t : WrittenType) → keeps_constant sight t (declared_of d) ≡ false)
unfolding declaration
no_constant (code.ConstantBody at n t e) not = absurd (not at n t e refl)
no_constant d not = (refl, λ sight t. refl)

-- one that is no record and no union
pub no_type : (d : Of Decl)
    → ((at : Pos) (n : Of Ident) (ps : Many TypeParameter) (u : Universe) (fs : Many Field)
    → d ≡ code.Record at n ps u fs → ⊥)
    → ((at : Pos) (n : Of Ident) (ps : Many TypeParameter) (u : Universe) (cs : Many UnionCase)
    → d ≡ code.Union at n ps u cs → ⊥)
    → (type_defined (declared_of d) ≡ None)
    × ((ps : List (InUniverse Bytes)) (u : Universe) → keeps_type ps u (declared_of d) ≡ false)
unfolding declaration
no_type (code.Record at n ps u fs) one other = absurd (one at n ps u fs refl)
no_type (code.Union at n ps u cs) one other = absurd (other at n ps u cs refl)
no_type d one other = (refl, λ ps u. refl)

-- one that is no function of a body
pub no_function : (d : Of Decl)
    → ((at : Pos) (gs : Many Generic) (s : Of Signature) (b : Of Block) (end : Pos)
    → d ≡ code.FunctionBody at gs s b end → ⊥)
    → (function_defined (declared_of d) ≡ None) × ((sight : Sight) (gs : List (Constrained Bytes))
    (h : Header Bytes) → keeps_function sight gs h (declared_of d) ≡ false)
unfolding declaration
no_function (code.FunctionBody at gs s b end) not = absurd (not at gs s b end refl)
no_function d not = (refl, λ sight gs h. refl)

-- one that is no instance of a body
pub no_instance : (d : Of Decl)
    → ((at : Pos) (gs : Many Generic) (n : Of Ident) (t : TypeText) (ms : Many Method)
    → d ≡ code.InstanceBody at gs n t ms → ⊥)
    → (sight : Sight) → ((sort : KeySort) → key_defined sort sight (declared_of d) ≡ None)
    × ((gs : List (Constrained Bytes)) → keeps_instance sight gs (declared_of d) ≡ false)
unfolding declaration
no_instance (code.InstanceBody at gs n t ms) not sight = absurd (not at gs n t ms refl)
no_instance d not sight = (λ sort. refl, λ gs. refl)

-- Nothing is promised, so nothing defines it, or keeps it.
pub record NoPromise (d : Of Decl) : Type 0 where
  pub promises : promised (declared_of d) ≡ None
  pub defined : (sight : Sight) → defines sight (declared_of d) ≡ (λ e. false)
  pub kept : (sight : Sight) (e : PlainDeclaration) → keeps sight (declared_of d) e ≡ false

-- one that is no constant, opaque type, function or instance of an interface
pub no_promise : (d : Of Decl)
    → ((at : Pos) (n : Of Ident) (t : TypeText) → d ≡ code.Constant at n t → ⊥)
    → ((at : Pos) (n : Of Ident) (ps : Many TypeParameter) (u : Universe) → d ≡ code.Opaque at n ps u → ⊥)
    → ((at : Pos) (gs : Many Generic) (s : Of Signature) → d ≡ code.Function at gs s → ⊥)
    → ((at : Pos) (gs : Many Generic) (n : Of Ident) (t : TypeText) → d ≡ code.Instance at gs n t → ⊥)
    → NoPromise d
unfolding declaration
no_promise (code.Constant at n t) constant opaque function instance = absurd (constant at n t refl)
no_promise (code.Opaque at n ps u) constant opaque function instance = absurd (opaque at n ps u refl)
no_promise (code.Function at gs s) constant opaque function instance = absurd (function at gs s refl)
no_promise (code.Instance at gs n t) constant opaque function instance = absurd (instance at gs n t refl)
no_promise d constant opaque function instance =
    record { promises = refl; defined = λ sight. refl; kept = λ sight e. refl }
