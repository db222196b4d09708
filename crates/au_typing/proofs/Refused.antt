-- The search refuses exactly what has no good noting.
use Rattle.std.proofs.Common.{◌≡◌, ◌↔◌, refl, sym, ap, ◌∙◌, Ok, Err}
use Rattle.au_syntax.specs.Plain.{PlainExpression}
use Rattle.au_typing.specs.Scopes.{Scope}
use Rattle.au_typing.specs.Faults.{Fault, Noting}
use Rattle.au_typing.specs.Notes.{Mode, NotedExpression, erase}
use Rattle.au_typing.specs.Search.{note}
use Rattle.au_typing.proofs.Found.{found}
use Rattle.au_typing.proofs.Sound.{sound}
use Rattle.au_typing.specs.Good.{IsNoting}

pub noting_is_given : (scope : Scope) (e : PlainExpression) (mode : Mode) (a : NotedExpression) →
    IsNoting scope e mode a → note scope e mode ≡ Ok a
noting_is_given scope e mode a h =
    ap (λ (t : PlainExpression). note scope t mode) (sym h.2)
    ∙ (ap (note scope (erase a)) (sym h.1) ∙ found scope a h.0)

none_where_refused : (scope : Scope) (e : PlainExpression) (mode : Mode) (fault : Fault) →
    note scope e mode ≡ Err fault → ¬ ((a : NotedExpression) × IsNoting scope e mode a)
none_where_refused scope e mode fault refused one =
    let both : ◌≡◌ {A = Noting NotedExpression} (Err fault) (Ok one.0) = sym refused
    ∙ noting_is_given scope e mode one.0 one.1 in
    absurd cc

refused_where_none : (scope : Scope) (e : PlainExpression) (mode : Mode) →
    ¬ ((a : NotedExpression) × IsNoting scope e mode a) → (fault : Fault) × (note scope e mode ≡ Err fault)
refused_where_none scope e mode none = by (note scope e mode) refl
  where
    by : (r : Noting NotedExpression) → note scope e mode ≡ r → (fault : Fault) × (note scope e mode ≡ Err fault)
    by (Ok a) h = absurd (none (a, sound scope e mode a h))
    by (Err fault) h = (fault, h)

pub refused_exactly : (scope : Scope) (e : PlainExpression) (mode : Mode) →
    ((fault : Fault) × (note scope e mode ≡ Err fault)) ↔ (¬ ((a : NotedExpression) × IsNoting scope e mode a))
refused_exactly scope e mode =
    (λ told. none_where_refused scope e mode told.0 told.1, refused_where_none scope e mode)
