-- A declaration of none of the forms that are looked for: it declares no type, or brings no names along.
use Rattle.std.proofs.Common.{◌≡◌, Vec, None, [], refl}
use Rattle.std.specs.Global.{Global}
use Rattle.au_base.specs.declared.places.Pos.{Pos}
use Rattle.au_syntax.specs.declared.parsed.Parsed.{Parsed}
use Rattle.au_syntax.specs.declared.names.Ident.{Ident}
use Rattle.au_syntax.specs.declared.names.Field.{Field}
use Rattle.au_syntax.specs.declared.declarations.Decl.{Decl}
use Rattle.au_syntax.specs.declared.declarations.Decl.TheVariants as code
use Rattle.au_syntax.specs.declared.declarations.Signature.{Signature}
use Rattle.au_syntax.specs.declared.declarations.TypeParameter.{TypeParameter}
use Rattle.au_syntax.specs.declared.declarations.UnionCase.{UnionCase}
use Rattle.au_syntax.specs.declared.declarations.Universe.{Universe}
use Rattle.au_syntax.specs.Plain.{Bytes}
use Rattle.au_syntax.specs.Views.{declaration}
use Rattle.au_names.specs.DeclaredTypes.{type_declared}
use Rattle.au_names.specs.Importing.{members}
use Rattle.au_names.specs.Walks.{written}

abbrev of : (Type 0 → Type 0 → Type 0 → Type 0 → Type 0) → Type 0
of kind = kind Parsed Bytes (Unit {0}) (Unit {0})

pub no_type : (d : of Decl)
    → ((at : Pos) (n : of Ident) (ps : Vec (of TypeParameter) Global) (u : Universe)
    → d ≡ code.Opaque at n ps u → ⊥)
    → ((at : Pos) (n : of Ident) (ps : Vec (of TypeParameter) Global) (u : Universe)
    (fs : Vec (of Field) Global) → d ≡ code.Record at n ps u fs → ⊥)
    → ((at : Pos) (n : of Ident) (ps : Vec (of TypeParameter) Global) (u : Universe)
    (cs : Vec (of UnionCase) Global) → d ≡ code.Union at n ps u cs → ⊥)
    → type_declared (written d) ≡ None
unfolding declaration
no_type (code.Opaque at n ps u) opaque record' union = absurd (opaque at n ps u refl)
no_type (code.Record at n ps u fs) opaque record' union = absurd (record' at n ps u fs refl)
no_type (code.Union at n ps u cs) opaque record' union = absurd (union at n ps u cs refl)
no_type d opaque record' union = refl

pub no_members : (d : of Decl)
    → ((at : Pos) (n : of Ident) (ps : Vec (of TypeParameter) Global) (u : Universe)
    (cs : Vec (of UnionCase) Global) → d ≡ code.Union at n ps u cs → ⊥)
    → ((at : Pos) (n : of Ident) (p : of TypeParameter) (ms : Vec (of Signature) Global)
    → d ≡ code.Class at n p ms → ⊥)
    → members (written d) ≡ []
unfolding declaration
no_members (code.Union at n ps u cs) union class = absurd (union at n ps u cs refl)
no_members (code.Class at n p ms) union class = absurd (class at n p ms refl)
no_members d union class = refl
