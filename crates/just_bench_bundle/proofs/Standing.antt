-- Items that stand on lines, one after another, and those of a file.
use Rattle.std.proofs.Common.{◌≡◌, ℕ, ◌+◌, ◌<◌, ◌≤◌, List, [], ◌∷◌, ◌++◌, map, length, take, get_or, Option, Some, None, Result, IfOk, ◌⊎◌, inl, inr, sym, ap, subst, ◌∙◌}
use Rattle.std.specs.List.{Contains}
use Rattle.std.proofs.lemmas.List.{take_all, take_more}
use Rattle.std.proofs.lemmas.Result.{IfOk-weaker}
use Rattle.std.proofs.lemmas.List.Elements.{Contains-push_cases}
use Rattle.just_bench_bundle.specs.Places.{IsOnLine, LinkStandsIn, StandsOn, edge_line, item_line}
use Rattle.just_bench_bundle.specs.loops.Places.{Finds, FindsIn, HasItems}
use Rattle.just_bench_bundle.specs.loops.Walk.{LeadAmong}
use Rattle.just_bench_syntax.specs.Answers.{answers}
use Rattle.just_loader.specs.Links.{Link, edge_link, link_by}
use Rattle.just_loader.specs.Reached.{World, world_of, FileLeadsTo, items_of_file}
use Rattle.just_loader.specs.Sources.{Files}
use Rattle.just_loader.proofs.Numberings.{get_map, got, map_get, placed}
use Rattle.just_parts.proofs.Edges.{edge_bare}
use Rattle.just_parts.specs.Bare.{bare_item}
use Rattle.just_parts.specs.Items.{Item}
use Rattle.just_parts.specs.declared.layers.config.Config.{Config}
use Rattle.just_paths.specs.Clean.{folder_of}

-- an item is among all, and one among the first is the last of these or before it
pub is_among : (items : List Item) (i : ℕ) (item : Item) → i < length items → item ≡ get_or items i item → Contains items item
is_among items i item inside is = (i, inside, sym is)

pub among_more : (items : List Item) (i : ℕ) (item other : Item) → i < length items → item ≡ get_or items i item → Contains (take (i + 1) items) other → Contains (take i items) other ⊎ (item ≡ other)
among_more items i item other inside is c =
    let all : take (i + 1) items ≡ take i items ++ item ∷ [] = take_more items i item inside ∙ ap (λ y. take i items ++ y ∷ []) (sym is) in
    Contains-push_cases (take i items) item other (subst (λ xs. Contains xs other) all c)

pub among_all : (items : List Item) (i : ℕ) (item : Item) → length items ≤ i → Contains items item → Contains (take i items) item
among_all items i item past c = subst (λ xs. Contains xs item) (sym (take_all i items past)) c

module _ (items : List Item) (leads : Item → Link) (to : Link) where
  -- none of the first items stands so, and the next does not
  pub none_more : (i : ℕ) (item : Item) (found : Option ℕ) → i < length items → item ≡ get_or items i item → found ≡ None → ((line : ℕ) → StandsOn (Contains (take i items)) leads to line → ⊥) → Finds (IsOnLine leads to item) found
      → (line : ℕ) → StandsOn (Contains (take (i + 1) items)) leads to line → ⊥
  none_more i item found inside is none before here line s = elim (among_more items i item s.item inside is s.one) [
    | inl c ↦ before line (record { item = s.item; one = c; on = s.on })
    | inr same ↦ subst (Finds (IsOnLine leads to item)) none here line (subst (λ x. IsOnLine leads to x line) (sym same) s.on)
  ]

  pub none_all : (i : ℕ) → length items ≤ i → ((line : ℕ) → StandsOn (Contains (take i items)) leads to line → ⊥) → (line : ℕ) → StandsOn (Contains items) leads to line → ⊥
  none_all i past before line s = before line (record { item = s.item; one = among_all items i s.item past s.one; on = s.on })

  -- one of the items does
  pub one_stands : (i : ℕ) (item : Item) (line : ℕ) → i < length items → item ≡ get_or items i item → IsOnLine leads to item line → StandsOn (Contains items) leads to line
  one_stands i item line inside is on = record { item = item; one = is_among items i item inside is; on = on }

module _ (files : Files) (config : Config) (root path : List ℕ) where
  abbrev w : World
  w = world_of files config (answers []) root

  abbrev leads : Item → Link
  leads = link_by files config (answers []) (folder_of path)

  -- a bare item leads where the item does
  leads_bare : (item : Item) → leads (bare_item item) ≡ leads item
  leads_bare item = ap (edge_link files config.home (folder_of path)) (edge_bare item)

  line_bare : (item : Item) → item_line (bare_item item) ≡ item_line item
  line_bare item = ap edge_line (edge_bare item)

  pub none_in : HasItems files root path None → (to : Link) (line : ℕ) → LinkStandsIn w path to line → ⊥
  none_in said to line s = let no : None ≡ Some s.one.0 = sym (said config) ∙ s.one.1 in cc

  pub leads_nowhere : HasItems files root path None → (next : List ℕ) → FileLeadsTo w path next → ⊥
  leads_nowhere said next l = let no : None ≡ Some l.has.0 = sym (said config) ∙ l.has.1 in cc

  module _ (items : List Item) (said : HasItems files root path (Some (map bare_item items))) where
    -- an item of the file is that of one of these
    from_bare : (bare : List Item) (item : Item) → items_of_file w path ≡ Some bare → Contains bare item → (i : Item) × Contains items i × (bare_item i ≡ item)
    from_bare bare item is c =
        let same : bare ≡ map bare_item items = (let e = sym is ∙ said config in cc) in
        let at = placed (map bare_item items) item (subst (λ xs. Contains xs item) same c) in
        let i = get_map bare_item items at.0 item at.1 in
        (i.0, got items at.0 i.0 i.1, i.2)

    to_bare : (item : Item) → Contains items item → Contains (map bare_item items) (bare_item item)
    to_bare item c = let at = placed items item c in got (map bare_item items) at.0 (bare_item item) (map_get bare_item items at.0 item at.1)

    pub stands_in : (to : Link) (line : ℕ) → StandsOn (Contains items) leads to line → LinkStandsIn w path to line
    stands_in to line s = record { item = bare_item s.item; one = (map bare_item items, said config, to_bare s.item s.one); on = (leads_bare s.item ∙ s.on.0, line_bare s.item ∙ s.on.1) }

    stands_on : (to : Link) (line : ℕ) → LinkStandsIn w path to line → StandsOn (Contains items) leads to line
    stands_on to line s =
        let i = from_bare s.one.0 s.item s.one.1 s.one.2 in
        record { item = i.0; one = i.1; on = (sym (leads_bare i.0) ∙ ap leads i.2 ∙ s.on.0, sym (line_bare i.0) ∙ ap item_line i.2 ∙ s.on.1) }

    -- what is found among these is found in the file
    pub finds_in : (to : Link) (found : Option ℕ) → Finds (StandsOn (Contains items) leads to) found → FindsIn w path to found
    finds_in to (Some line) here = stands_in to line here
    finds_in to None none = λ clean line s. none line (stands_on to line s)

    -- the same of items and a folder that are read
    pub finds_ok : {E : Type 0} (r : Result (Option ℕ) E) (xs : List Item) (folder : List ℕ) (to : Link) → xs ≡ items → folder ≡ folder_of path → IfOk r (Finds (StandsOn (Contains xs) (link_by files config (answers []) folder) to)) → IfOk r (FindsIn w path to)
    finds_ok r xs folder to same at h =
        let there = subst (λ (f : List ℕ). IfOk r (Finds (StandsOn (Contains xs) (link_by files config (answers []) f) to))) at h in
        IfOk-weaker r (Finds (StandsOn (Contains items) leads to)) (FindsIn w path to) (finds_in to) (subst (λ (ys : List Item). IfOk r (Finds (StandsOn (Contains ys) leads to))) same there)

    pub file_leads : (next : List ℕ) → LeadAmong items leads next → FileLeadsTo w path next
    file_leads next l = record { item = bare_item l.0; has = (map bare_item items, said config, to_bare l.0 l.1); leads = leads_bare l.0 ∙ l.2 }

    pub lead_among : (next : List ℕ) → FileLeadsTo w path next → LeadAmong items leads next
    lead_among next l =
        let i = from_bare l.has.0 l.item l.has.1 l.has.2 in
        (i.0, i.1, sym (leads_bare i.0) ∙ ap leads i.2 ∙ l.leads)
