-- Items with the absolute paths of what they lead to.
use Rattle.std.proofs.Common.{◌≡◌, ℕ, ◌<◌, List, [], ◌∷◌, ◌++◌, map, length, get_or, set, take, drop, ◌+◌, zero, suc, Option, None, Some, IfSome, refl, sym, ap, subst, ◌∙◌, arith}
use Rattle.std.specs.Option.{option_map}
use Rattle.std.proofs.lemmas.List.{length-map}
use Rattle.std.proofs.lemmas.Option.{get_or_from_slice_get, slice_get_within}
use Rattle.just_ast_items.specs.Edge.{with_absolute}
use Rattle.just_parts.specs.Syntax.{item_numbers, numbers_of_items}
use Rattle.just_parts.proofs.Edges.{same_numbers}
use Rattle.just_parts.specs.Items.{Item}
use Rattle.just_loader.specs.Links.{Link, Unlinked, To, AtFault}
use Rattle.just_loader.specs.Loaded.{path_of_link, with_path}
use Rattle.just_loader.specs.loops.Loading.{HavePaths}
use Rattle.just_loader.specs.loops.Placed.{scanned_path}
use Rattle.just_loader.specs.Reached.{World, link}
use Rattle.just_loader.specs.loops.Scanned.{ArePlacesOf, IsLinkPlace, paths_in}
use Rattle.just_loader.specs.declared.scan_result.Scan.{Scan}
use Rattle.just_loader.specs.declared.scan_result.ScannedFile.{ScannedFile}

-- the path at the place of a link
shown : (scan : Scan) (l : Link) (t : Option ℕ) → IsLinkPlace (paths_in scan.files.items) l t → option_map (scanned_path scan) t ≡ path_of_link l
shown scan Unlinked None p = refl
shown scan Unlinked (Some k) p = absurd p
shown scan (To path) None p = absurd p
shown scan (To path) (Some k) p = ap Some (get_or_from_slice_get (paths_in scan.files.items) k path [] p)
shown scan (AtFault c) t p = absurd p

pub path_shown : (w : World) (scan : Scan) (folder : List ℕ) (i : Item) (t : Option ℕ) → IsLinkPlace (paths_in scan.files.items) (link w folder i) t → with_absolute (option_map (scanned_path scan) t) i ≡ with_path w folder i
path_shown w scan folder i t p = ap (λ o. with_absolute o i) (shown scan (link w folder i) t p)

pub place_inside : (scan : Scan) (l : Link) (t : Option ℕ) → IsLinkPlace (paths_in scan.files.items) l t → IfSome t (λ place. place < length scan.files.items)
place_inside scan l None p = tt
place_inside scan Unlinked (Some k) p = absurd p
place_inside scan (To path) (Some k) p = omega (arith, slice_get_within (paths_in scan.files.items) k path p, length-map scan.files.items (λ (f : ScannedFile). f.path))
place_inside scan (AtFault c) (Some k) p = absurd p

-- Items, of which those before a place are changed: the one there is not yet, and leads to the target beside it.
abbrev pub half : (Item → Item) → List Item → ℕ → List Item
half f is k = map f (take k is) ++ drop k is

pub place_here : (paths : List (List ℕ)) (L : Item → Link) (f : Item → Item) (is : List Item) (ts : List (Option ℕ)) (k : ℕ) (i : Item) → ArePlacesOf paths (map L is) ts → k < length is → i ≡ get_or (half f is k) k i → IsLinkPlace paths (L i) (get_or ts k None)
place_here paths L f [] ts k i p h e = absurd (omega (arith, h))
place_here paths L f (x ∷ is) [] k i p h e = absurd p
place_here paths L f (x ∷ is) (t ∷ ts) zero i p h e = subst (λ y. IsLinkPlace paths (L y) t) (sym e) p.0
place_here paths L f (x ∷ is) (t ∷ ts) (suc k) i p h e = place_here paths L f is ts k i p.1 (omega (arith, h)) e

-- the one there is changed
changed : (f : Item → Item) (is : List Item) (k : ℕ) (i : Item) → k < length is → i ≡ get_or (half f is k) k i → set (half f is k) k (f i) ≡ half f is (suc k)
changed f [] k i h e = absurd (omega (arith, h))
changed f (x ∷ is) zero i h e = ap (λ y. f y ∷ is) e
changed f (x ∷ is) (suc k) i h e = ap (λ ys. f x ∷ ys) (changed f is k i (omega (arith, h)) e)

pub half_more : (f : Item → Item) (is : List Item) (k : ℕ) (old : List Item) (i made : Item) → k < length is → old ≡ half f is k → i ≡ get_or old k i → made ≡ f i → set old k made ≡ half f is (k + 1)
half_more f is k old i made within was here e =
    let now : i ≡ get_or (half f is k) k i = here ∙ ap (λ xs. get_or xs k i) was in
    let next : suc k ≡ k + 1 = omega arith in
    ap (λ xs. set xs k made) was ∙ ap (set (half f is k) k) e ∙ changed f is k i within now ∙ ap (half f is) next

-- one more item
pub paths_more : (w : World) (scan : Scan) (folder : List ℕ) (items : List Item) (ts : List (Option ℕ)) (k : ℕ) (old : List Item) (i made : Item)
    → ArePlacesOf (paths_in scan.files.items) (map (link w folder) items) ts → k < length items → old ≡ half (with_path w folder) items k → i ≡ get_or old k i
    → made ≡ with_absolute (option_map (scanned_path scan) (get_or ts k None)) i → set old k made ≡ half (with_path w folder) items (k + 1)
paths_more w scan folder items ts k old i made places within was here is =
    let now : i ≡ get_or (half (with_path w folder) items k) k i = here ∙ ap (λ xs. get_or xs k i) was in
    let place = place_here (paths_in scan.files.items) (link w folder) (with_path w folder) items ts k i places within now in
    half_more (with_path w folder) items k old i made within was here (is ∙ path_shown w scan folder i (get_or ts k None) place)

-- all of them
pub all_linked : (w : World) (scan : Scan) (folder : List ℕ) (ts : List (Option ℕ)) (items lent new made : List Item)
    → lent ≡ items → HavePaths scan ts lent new → made ≡ new → ArePlacesOf (paths_in scan.files.items) (map (link w folder) items) ts → made ≡ map (with_path w folder) items
all_linked w scan folder ts items lent new made same have is places =
    is ∙ have w folder (subst (λ xs. ArePlacesOf (paths_in scan.files.items) (map (link w folder) xs) ts) (sym same) places) ∙ ap (map (with_path w folder)) same

-- paths change no numbers
pub with_paths_numbers : (w : World) (folder : List ℕ) (items : List Item) → numbers_of_items (map (with_path w folder) items) ≡ numbers_of_items items
with_paths_numbers w folder [] = refl
with_paths_numbers w folder (i ∷ is) = ap (λ ns. ns ++ numbers_of_items (map (with_path w folder) is)) (same_numbers (path_of_link (link w folder i)) i) ∙ ap (λ ns. item_numbers i ++ ns) (with_paths_numbers w folder is)
