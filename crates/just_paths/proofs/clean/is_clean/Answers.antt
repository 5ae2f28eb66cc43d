use Rattle.std.proofs.Common.{rules, tests, ◌≡◌, sym, arith, lit<, Some, None}
use Rattle.std.specs.List.{list_all, slice_split}
use Rattle.std.proofs.lemmas.Iterator.Search.{all_from_yields_List}
use Rattle.std.proofs.lemmas.Iterator.Splits.{YieldsList-from_str_split}
use Rattle.std.proofs.lemmas.Str.Pattern.{strip_prefix_char}
use Rattle.just_paths.specs.Clean.{is_slash, is_component}
use Rattle.just_paths.proofs.Slashes.{clean_by, unclean_by}
use Rattle.just_paths.proofs.clean.is_clean.Goals as goal

pub returns-in-Some : goal.returns-in-Some
returns-in-Some c =
    let rest = c.in-Some.rest.now in
    let whole = strip_prefix_char 47 c.args.path.now (Some c.in-Some.rest) c.in-Some.ensures.cases (omega arith) in
    let parts = YieldsList-from_str_split 47 rest (lit< tt) (cc) (cc) (cc) in
    let all : c.all.result ≡ list_all is_component (slice_split is_slash rest) =
    all_from_yields_List is_component _ _ _ c.all.ensures.ran parts (λ x b q k. search (rules, tests)) in
    clean_by c.args.path.now rest c.all.result whole (sym all)

pub returns-in-None : goal.returns-in-None
returns-in-None c = unclean_by c.args.path.now (strip_prefix_char 47 c.args.path.now None c.in-None.ensures.cases (omega arith))
