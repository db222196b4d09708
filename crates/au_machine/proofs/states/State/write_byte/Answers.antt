use Rattle.std.proofs.Common.{◌∙◌, reverse, [], ◌∷◌, ℕ}
use Rattle.au_base.specs.declared.kinds.IntKind.TheVariants.{Nat8}
use Rattle.au_effects.specs.Worlds.{used, tells}
use Rattle.au_effects.specs.Answers.{Answer, writes}
use Rattle.au_effects.specs.Numbers.{number_of}
use Rattle.au_effects.specs.Calls.{given, natural_in, terminal_in}
use Rattle.au_cells.specs.Cells.{low}
use Rattle.au_stores.specs.Stores.{world_of}
use Rattle.au_machine.specs.States.{machine_of}
use Rattle.au_machine.proofs.StateLemmas.{come_to}
use Rattle.au_machine.proofs.ShippedLemmas.{written_in, from_found, from_none, use_found, use_none}
use Rattle.au_machine.proofs.states.State.write_byte.Goals as goal

pub returns-in_default-clause-is : goal.returns-in_default-clause-is
returns-in_default-clause-is c =
    let s = c.args.self.now in
    let own = reverse s.backs.items in
    let w = world_of s.world in
    let go : ℕ → ℕ → Answer ℕ ℕ = λ b id. given (natural_in (number_of Nat8 (low c.args.byte.now)))
    (λ n. writes (n ∷ []) (tells (used b) w)) in
    use_none terminal_in w go (low c.args.reference.now) (machine_of s) c.in_default.ensures

pub returns-in_default-byte_in-clause-is : goal.returns-in_default-byte_in-clause-is
returns-in_default-byte_in-clause-is c =
    let s = c.args.self.now in
    let own = reverse s.backs.items in
    let w = world_of s.world in
    let go : ℕ → ℕ → Answer ℕ ℕ = λ b id. given (natural_in (number_of Nat8 (low c.args.byte.now)))
    (λ n. writes (n ∷ []) (tells (used b) w)) in
    from_none _ (λ n. writes (n ∷ []) (tells (used c.in-Some.borrow) w))
    (machine_of s) c.in_default-byte_in.ensures
    ∙ use_found terminal_in w go (low c.args.reference.now)
    (machine_of s) c.in-Some.borrow c.in-Some._id c.in-Some.ensures

pub returns-clause-is : goal.returns-clause-is
returns-clause-is c =
    let s = c.args.self.now in
    let own = reverse s.backs.items in
    let w = world_of s.world in
    let go : ℕ → ℕ → Answer ℕ ℕ = λ b id. given (natural_in (number_of Nat8 (low c.args.byte.now)))
    (λ n. writes (n ∷ []) (tells (used b) w)) in
    come_to c.write_out.result c.write_out.new.self _ _
    (written_in s.function s.place s.operands s.borrows own s.world c.tell_use.new.self _ _
    c.in_ok-tell_use.ensures.world c.in_ok-tell_use.ensures.frame
    ∙ from_found _ _ (λ n. writes (n ∷ []) (tells (used c.in-Some.borrow) w))
    (machine_of s) c.in-Some-byte_in.ensures
    ∙ use_found terminal_in w go (low c.args.reference.now)
    (machine_of s) c.in-Some.borrow c.in-Some._id c.in-Some.ensures)
    c.write_out.ensures.is
