-- Settings before any is set.
use Rattle.std.specs.Prelude.{false, None}
use Rattle.just_ast_expressions.specs.declared.settings.Settings.{Settings}

-- no setting is on
abbrev pub default_settings : Settings
default_settings = record {
  allow_duplicate_recipes = false;
  allow_duplicate_variables = false;
  default_script = false;
  export = false;
  ignore_comments = false;
  lazy = false;
  lists = false;
  no_cd = false;
  no_exit_message = false;
  positional_arguments = false;
  quiet = false;
  script_interpreter = None;
  shell = None;
  unstable = false;
}
