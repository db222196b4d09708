-- Declarations in two phases, part by part.
use Rattle.std.proofs.Common.{◌≡◌, map, Vec, ap, ◌∙◌, sym}
use Rattle.std.specs.Global.{Global}
use Rattle.au_base.specs.declared.places.Pos.{Pos}
use Rattle.au_syntax.specs.declared.phases.Phase as phase
use Rattle.au_syntax.specs.declared.types.TypeText.{TypeText}
use Rattle.au_syntax.specs.declared.names.Ident.{Ident}
use Rattle.au_syntax.specs.declared.names.Field.{Field}
use Rattle.au_syntax.specs.declared.declarations.Universe.{Universe}
use Rattle.au_syntax.specs.declared.declarations.TypeParameter.{TypeParameter}
use Rattle.au_syntax.specs.declared.declarations.Generic.{Generic}
use Rattle.au_syntax.specs.declared.declarations.Signature.{Signature}
use Rattle.au_syntax.specs.declared.declarations.UnionCase.{UnionCase}
use Rattle.au_syntax.specs.declared.declarations.Method.{Method}
use Rattle.au_syntax.specs.declared.declarations.Decl.{Decl}
use Rattle.au_syntax.specs.declared.declarations.Decl.TheVariants as decl
use Rattle.au_syntax.specs.Modules.{opaque_type, record_type, union_type, function, class, instance}
use Rattle.au_syntax.specs.Modules.{instance_body}
use Rattle.au_syntax.specs.Views.{written, placed, labelled, in_universe, constrained, header, variant}
use Rattle.au_syntax.specs.Views.{method_body, declaration}
use Rattle.au_syntax.proofs.DeclarationLemmas.{opaque_says, record_says, union_says, function_says}
use Rattle.au_syntax.proofs.DeclarationLemmas.{class_says}
use Rattle.au_syntax.proofs.DeclarationLemmas.{instance_says, instance_body_says}
use Rattle.au_mapping.specs.declared.walks.Walk.{Ghosts}
use Rattle.au_mapping.specs.Seen.{before, after}

module _ {W X N T C Y M U D : Type 0} (w : Ghosts W X Y N T C M U D) where
  abbrev n : phase.Ghosts Y M U D
  n = after w

  abbrev o : phase.Ghosts X N T C
  o = before w

  pub opaque_walked : (old : Decl X N T C) (at : Pos)
      (x : Ident X N T C) (x' : Ident Y M U D)
      (ps : Vec (TypeParameter X N T C) Global) (ps' : Vec (TypeParameter Y M U D) Global)
      (u : Universe) →
      old ≡ decl.Opaque at x ps u →
      placed n x' ≡ placed o x →
      map (in_universe n) ps'.items ≡ map (in_universe o) ps.items →
      declaration n (decl.Opaque at x' ps' u) ≡ declaration o old
  opaque_walked old at x x' ps ps' u is first second =
      opaque_says n at x' ps' u
      ∙ ap (λ y. opaque_type at y (map (in_universe n) ps'.items) u) first
      ∙ ap (λ y. opaque_type at (placed o x) y u) second
      ∙ sym (ap (declaration o) is ∙ opaque_says o at x ps u)

  pub record_walked : (old : Decl X N T C) (at : Pos)
      (x : Ident X N T C) (x' : Ident Y M U D)
      (ps : Vec (TypeParameter X N T C) Global) (ps' : Vec (TypeParameter Y M U D) Global)
      (u : Universe)
      (fs : Vec (Field X N T C) Global) (fs' : Vec (Field Y M U D) Global) →
      old ≡ decl.Record at x ps u fs →
      placed n x' ≡ placed o x →
      map (in_universe n) ps'.items ≡ map (in_universe o) ps.items →
      map (labelled n) fs'.items ≡ map (labelled o) fs.items →
      declaration n (decl.Record at x' ps' u fs') ≡ declaration o old
  record_walked old at x x' ps ps' u fs fs' is first second third =
      record_says n at x' ps' u fs'
      ∙ ap (λ y. record_type at y (map (in_universe n) ps'.items) u (map (labelled n) fs'.items)) first
      ∙ ap (λ y. record_type at (placed o x) y u (map (labelled n) fs'.items)) second
      ∙ ap (λ y. record_type at (placed o x) (map (in_universe o) ps.items) u y) third
      ∙ sym (ap (declaration o) is ∙ record_says o at x ps u fs)

  pub union_walked : (old : Decl X N T C) (at : Pos)
      (x : Ident X N T C) (x' : Ident Y M U D)
      (ps : Vec (TypeParameter X N T C) Global) (ps' : Vec (TypeParameter Y M U D) Global)
      (u : Universe)
      (cs : Vec (UnionCase X N T C) Global) (cs' : Vec (UnionCase Y M U D) Global) →
      old ≡ decl.Union at x ps u cs →
      placed n x' ≡ placed o x →
      map (in_universe n) ps'.items ≡ map (in_universe o) ps.items →
      map (variant n) cs'.items ≡ map (variant o) cs.items →
      declaration n (decl.Union at x' ps' u cs') ≡ declaration o old
  union_walked old at x x' ps ps' u cs cs' is first second third =
      union_says n at x' ps' u cs'
      ∙ ap (λ y. union_type at y (map (in_universe n) ps'.items) u (map (variant n) cs'.items)) first
      ∙ ap (λ y. union_type at (placed o x) y u (map (variant n) cs'.items)) second
      ∙ ap (λ y. union_type at (placed o x) (map (in_universe o) ps.items) u y) third
      ∙ sym (ap (declaration o) is ∙ union_says o at x ps u cs)

  pub function_walked : (old : Decl X N T C) (at : Pos)
      (gs : Vec (Generic X N T C) Global) (gs' : Vec (Generic Y M U D) Global)
      (s : Signature X N T C) (s' : Signature Y M U D) →
      old ≡ decl.Function at gs s →
      map (constrained n) gs'.items ≡ map (constrained o) gs.items →
      header n s' ≡ header o s →
      declaration n (decl.Function at gs' s') ≡ declaration o old
  function_walked old at gs gs' s s' is first second =
      function_says n at gs' s'
      ∙ ap (λ y. function at y (header n s')) first
      ∙ ap (λ y. function at (map (constrained o) gs.items) y) second
      ∙ sym (ap (declaration o) is ∙ function_says o at gs s)

  pub class_walked : (old : Decl X N T C) (at : Pos)
      (x : Ident X N T C) (x' : Ident Y M U D)
      (r : TypeParameter X N T C) (r' : TypeParameter Y M U D)
      (ms : Vec (Signature X N T C) Global) (ms' : Vec (Signature Y M U D) Global) →
      old ≡ decl.Class at x r ms →
      placed n x' ≡ placed o x →
      in_universe n r' ≡ in_universe o r →
      map (header n) ms'.items ≡ map (header o) ms.items →
      declaration n (decl.Class at x' r' ms') ≡ declaration o old
  class_walked old at x x' r r' ms ms' is first second third =
      class_says n at x' r' ms'
      ∙ ap (λ y. class at y (in_universe n r') (map (header n) ms'.items)) first
      ∙ ap (λ y. class at (placed o x) y (map (header n) ms'.items)) second
      ∙ ap (λ y. class at (placed o x) (in_universe o r) y) third
      ∙ sym (ap (declaration o) is ∙ class_says o at x r ms)

  pub instance_walked : (old : Decl X N T C) (at : Pos)
      (gs : Vec (Generic X N T C) Global) (gs' : Vec (Generic Y M U D) Global)
      (x : Ident X N T C) (x' : Ident Y M U D)
      (t t' : TypeText) →
      old ≡ decl.Instance at gs x t →
      map (constrained n) gs'.items ≡ map (constrained o) gs.items →
      placed n x' ≡ placed o x →
      written t' ≡ written t →
      declaration n (decl.Instance at gs' x' t') ≡ declaration o old
  instance_walked old at gs gs' x x' t t' is first second third =
      instance_says n at gs' x' t'
      ∙ ap (λ y. instance at y (placed n x') (written t')) first
      ∙ ap (λ y. instance at (map (constrained o) gs.items) y (written t')) second
      ∙ ap (λ y. instance at (map (constrained o) gs.items) (placed o x) y) third
      ∙ sym (ap (declaration o) is ∙ instance_says o at gs x t)

  pub instance_body_walked : (old : Decl X N T C) (at : Pos)
      (gs : Vec (Generic X N T C) Global) (gs' : Vec (Generic Y M U D) Global)
      (x : Ident X N T C) (x' : Ident Y M U D)
      (t t' : TypeText)
      (ms : Vec (Method X N T C) Global) (ms' : Vec (Method Y M U D) Global) →
      old ≡ decl.InstanceBody at gs x t ms →
      map (constrained n) gs'.items ≡ map (constrained o) gs.items →
      placed n x' ≡ placed o x →
      written t' ≡ written t →
      map (method_body n) ms'.items ≡ map (method_body o) ms.items →
      declaration n (decl.InstanceBody at gs' x' t' ms') ≡ declaration o old
  instance_body_walked old at gs gs' x x' t t' ms ms' is first second third fourth =
      instance_body_says n at gs' x' t' ms'
      ∙ ap (λ y. instance_body at y (placed n x') (written t') (map (method_body n) ms'.items)) first
      ∙ ap (λ y. instance_body at (map (constrained o) gs.items) y (written t')
      (map (method_body n) ms'.items)) second
      ∙ ap (λ y. instance_body at (map (constrained o) gs.items) (placed o x) y
      (map (method_body n) ms'.items)) third
      ∙ ap (λ y. instance_body at (map (constrained o) gs.items) (placed o x) (written t) y) fourth
      ∙ sym (ap (declaration o) is ∙ instance_body_says o at gs x t ms)
