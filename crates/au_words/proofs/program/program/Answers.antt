-- Each command that is added stands behind those before it.
use Rattle.std.proofs.Common.{rules, ◌≡◌, ◌∙◌, ap₂, [], true}
use Rattle.std.proofs.lemmas.Result.{IfOk-weaker}
use Rattle.clap.specs.Words.{App, app_of, with_subcommand}
use Rattle.au_words.specs.Given as given
use Rattle.au_words.proofs.program.program.Goals as goal

-- what stands before the commands, with no command yet
abbrev alone : App
alone = record { top = record given.program_top { is_leaf = true }; subs = [] }

pub returns : goal.returns
returns c =
    let alone_is : app_of c.subcommand_required.result ≡ alone = search rules in
    let with_run = c.in_ok-subcommand.ensures.shape c.in_ok-run_command.ensures.local
    ∙ ap₂ with_subcommand alone_is c.in_ok-run_command.ensures.shape in
    let with_compile = c.in_ok-subcommand-2.ensures.shape c.in_ok-compile_command.ensures.local
    ∙ ap₂ with_subcommand with_run c.in_ok-compile_command.ensures.shape in
    let with_explain = c.in_ok-subcommand-3.ensures.shape c.in_ok-explain_command.ensures.local
    ∙ ap₂ with_subcommand with_compile c.in_ok-explain_command.ensures.shape in
    let with_check = c.in_ok-subcommand-4.ensures.shape c.in_ok-check_command.ensures.local
    ∙ ap₂ with_subcommand with_explain c.in_ok-check_command.ensures.shape in
    let with_format = c.in_ok-subcommand-5.ensures.shape c.in_ok-format_command.ensures.local
    ∙ ap₂ with_subcommand with_check c.in_ok-format_command.ensures.shape in
    IfOk-weaker c.subcommand-6.result _ _ (λ r added. added.shape c.in_ok-caps_command.ensures.local
    ∙ ap₂ with_subcommand with_format c.in_ok-caps_command.ensures.shape) c.subcommand-6.ensures
