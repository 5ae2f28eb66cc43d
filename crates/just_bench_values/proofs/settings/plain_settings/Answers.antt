use Rattle.std.proofs.Common.{◌≡◌, Some}
use Rattle.just_ast_expressions.specs.Settings.{default_settings}
use Rattle.just_bench_values.proofs.settings.plain_settings.Goals as goal

pub returns : goal.returns
returns c =
    let made = c.default-settings.ensures in
    let none : c.default-settings.result ≡ default_settings = λ i. record {
      allow_duplicate_recipes = made.0 i;
      allow_duplicate_variables = made.1.0 i;
      default_script = made.1.1.0 i;
      export = made.1.1.1.0 i;
      ignore_comments = made.1.1.1.1.0 i;
      lazy = made.1.1.1.1.1.0 i;
      lists = made.1.1.1.1.1.1.0 i;
      no_cd = made.1.1.1.1.1.1.1.0 i;
      no_exit_message = made.1.1.1.1.1.1.1.1.0 i;
      positional_arguments = made.1.1.1.1.1.1.1.1.1.0 i;
      quiet = made.1.1.1.1.1.1.1.1.1.1.0 i;
      script_interpreter = made.1.1.1.1.1.1.1.1.1.1.1.0 i;
      shell = made.1.1.1.1.1.1.1.1.1.1.1.1.0 i;
      unstable = made.1.1.1.1.1.1.1.1.1.1.1.1.1 i;
    } in
    λ i. record (none i) { script_interpreter = Some (c.in_ok-shell_with-2.ensures i); shell = Some (c.in_ok-shell_with.ensures i) }
