-- Each alias of each module of a tree that keeps its rules has a name of its own there.
use Rattle.std.proofs.Common.{◌≡◌, Bool, true, false, cond, List, [], ◌∷◌, Option, None, Some, refl, subst}
use Rattle.std.specs.List.{list_any}
use Rattle.std.specs.Prelude.{if◌then◌else◌}
use Rattle.std.specs.Str.{bytes_eq}
use Rattle.just_graph.proofs.Index.{some_same}
use Rattle.just_module_contents.specs.Groups.{OfHeaders}
use Rattle.just_module_contents.specs.Rules.{of_named}
use Rattle.just_module_tree.specs.Groups.{KeepsGroups, KeepsModules}
use Rattle.just_module_tree.specs.Modules.{Empty, Forest, HasModule, Module, Tree, after_it, contents_of, first, in_it, items_of}
use Rattle.just_module_tree.specs.Standing as trees
use Rattle.just_module_tree.specs.Standing.{WalkEnd, absent_in, find_inner, follow, name_in}
use Rattle.just_names.specs.Texts.{Text}
use Rattle.just_parts.specs.Layers.{Given}
use Rattle.just_overrides.proofs.Once.{OnceNamed, all_different, none_repeat, once_named}

-- so it is in each module of a forest
abbrev pub OnceAll : Forest → Type 0
OnceAll f = (n : Module) (under : Forest) → HasModule f n under → OnceNamed (contents_of n).aliases

-- headers that are kept make it so
once_kept : (given : Given) (n : Module) (under : Forest) → KeepsGroups given n under → OnceNamed (contents_of n).aliases
once_kept given n under kept = once_named (items_of n.asts) (all_different _ (none_repeat (contents_of n).named (λ c b. kept OfHeaders c (of_named b))))

pub all_once : (given : Given) (f : Forest) → KeepsModules given f → OnceAll f
all_once given f kept n under has = once_kept given n under (kept n under has)

-- in a module that is found, and in those in it
abbrev Once : Module → Forest → Type 0
Once n within = OnceNamed (contents_of n).aliases × OnceAll within

once_by : (m n : Module) (inside within : Forest) (o : Option (Module × Forest)) (b : Bool) → Once m inside → (o ≡ Some (n, within) → Once n within) → cond b (Some (m, inside)) o ≡ Some (n, within) → Once n within
once_by m n inside within o true here later e =
    let same : (m, inside) ≡ (n, within) = some_same e in
    subst (λ (x : Module × Forest). Once x.0 x.1) same here
once_by m n inside within o false here later e = later e

pub once_inner : (name : Text) (f : Forest) (n : Module) (within : Forest) → OnceAll f → find_inner name f ≡ Some (n, within) → Once n within
once_inner name Empty n within all e = cc
once_inner name (Tree m inside after) n within all e =
    once_by m n inside within (find_inner name after) (bytes_eq (name_in m) name) (all m inside first, λ k under has. all k under (in_it has))
    (once_inner name after n within (λ k under has. all k under (after_it has))) e

-- and in one to which names lead
abbrev next_place : List Text → Text → Bool → Option (Module × Forest) → WalkEnd
next_place names x absent found = elim found as (λ _. WalkEnd) [
  | Some n ↦ trees.walk_beyond x (follow names n.0 n.1)
  | None ↦ if absent then trees.Missing (x ∷ []) else trees.Nowhere
]

beyond_in : (x : Text) (n : Module) (within : Forest) (p : WalkEnd) → trees.walk_beyond x p ≡ trees.InModule n within → p ≡ trees.InModule n within
beyond_in x n within (trees.InModule m inside) e = e
beyond_in x n within (trees.Missing names) e = cc
beyond_in x n within trees.Nowhere e = cc

pub once_followed : (names : List Text) (m : Module) (inside : Forest) (n : Module) (within : Forest) → OnceNamed (contents_of m).aliases → OnceAll inside → follow names m inside ≡ trees.InModule n within → Once n within
once_followed [] m inside n within once all e =
    let en : m ≡ n = cc in
    let ew : inside ≡ within = cc in
    subst (λ w. Once n w) ew (subst (λ x. Once x inside) en (once, all))
once_followed (x ∷ names) m inside n within once all e = go (λ k. once_followed names k.0 k.1 n within) (list_any (λ absent. bytes_eq absent x) (absent_in m)) (find_inner x inside) refl e
  where
    go : ((k : Module × Forest) → OnceNamed (contents_of k.0).aliases → OnceAll k.1 → follow names k.0 k.1 ≡ trees.InModule n within → Once n within)
        → (absent : Bool) (found : Option (Module × Forest)) → find_inner x inside ≡ found → next_place names x absent found ≡ trees.InModule n within → Once n within
    go inner true None f g = cc
    go inner false None f g = cc
    go inner absent (Some k) f g =
        let o = once_inner x inside k.0 k.1 all f in
        inner k o.0 o.1 (beyond_in x n within (follow names k.0 k.1) g)
