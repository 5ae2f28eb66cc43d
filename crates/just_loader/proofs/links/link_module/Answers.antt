use Rattle.std.proofs.Common.{◌≡◌, Some, subst, sym, rules, IfErr}
use Rattle.std.specs.Option.{option_map}
use Rattle.just_names.specs.Token.{lexeme}
use Rattle.just_loader.specs.ModuleFile.{candidates}
use Rattle.just_loader.specs.Links.{AtFault, given_path, module_link}
use Rattle.just_errors.specs.Causes.{Reports}
use Rattle.just_loader.proofs.Linking.{several_named}
use Rattle.just_loader.proofs.links.link_module.Goals as goal

pub returns-in_err-path-clause-error : goal.returns-in_err-path-clause-error
returns-in_err-path-clause-error c =
    let path : given_path c.args.config.now.home c.args.literal.now ≡ Some (option_map (λ p. p.now) c.map-path.result) = search rules in
    subst (λ g. IfErr c.from_residual-in_err-path.result (Reports (λ c'. module_link c.args.sources.now c.args.folder.now c.args.name.now c.args.optional g ≡ AtFault c'))) (sym path)
    (several_named c.args.folder.now c.args.name.now c.args.optional (candidates c.args.sources.now c.args.folder.now (lexeme c.args.name.now.token) (option_map (λ p. p.now) c.map-path.result)) c.from_residual-in_err-path.result (search rules))
