-- The key of the work that a record belongs to, in this project's own profile of the OCLC work-set algorithm.
use Rattle.std.specs.Prelude.{ℕ, Bool, if◌then◌else◌, Option, Some, None, List, [], ◌++◌, codes, map, fold, bytes_eq}
use Rattle.std.specs.Ordering.{nat_cmp, is_lt}
use Rattle.std.specs.Cmp.Lexicographic.{slice_cmp}
use Rattle.union_base.specs.declared.field.Field.{Field}
use Rattle.union_base.specs.declared.record_id.RecordId.{RecordId}
use Rattle.naco_normal.specs.Words.{is_empty}
use Rattle.workset_keys.specs.Names.{name_of, title130_of, title240_of, title245_of}

-- the 1XX is a uniform title, field 130
abbrev pub is_uniform_title : List ℕ → Bool
is_uniform_title tag = bytes_eq tag (codes "130")

-- the name in the 1XX, empty where there is none
abbrev pub main_name : Option Field → List ℕ
main_name None = []
main_name (Some f) = if is_uniform_title f.tag then [] else name_of f

-- the title in the 1XX, empty where there is none
abbrev pub main_title : Option Field → List ℕ
main_title None = []
main_title (Some f) = if is_uniform_title f.tag then title130_of f else []

-- the title in the 240, empty where there is none
abbrev pub uniform_title : Option Field → List ℕ
uniform_title None = []
uniform_title (Some f) = title240_of f

-- the byte-lesser of two texts, where an empty one counts for nothing
abbrev pub lesser : List ℕ → List ℕ → List ℕ
lesser least text =
    if is_empty least then text else
    (if is_empty text then least else
    (if is_lt (slice_cmp nat_cmp text least) then text else least))

-- the byte-least of the names, of those that are not empty, or else empty
abbrev pub least_of : List (List ℕ) → List ℕ
least_of names = fold lesser [] names

-- the byte-least name in the fields
abbrev pub least_name : List Field → List ℕ
least_name fields = least_of (map name_of fields)

-- the first text that is not empty
abbrev pub or_else : List ℕ → List ℕ → List ℕ
or_else text other = if is_empty text then other else text

-- the key where the 1XX has no name and no title: by the title of the 245 and the least name of the 7XX, or else by that
-- title and the record itself
abbrev pub key_by_title : List ℕ → List ℕ → List ℕ → List ℕ
key_by_title title245 least own = if is_empty least then title245 ++ codes "///" ++ own else title245 ++ codes "//" ++ least

-- the key where the 1XX has no name: by its title, where it has one
abbrev pub key_without_name : List ℕ → List ℕ → List ℕ → List ℕ → List ℕ
key_without_name main_title title245 least own = if is_empty main_title then key_by_title title245 least own else codes "/" ++ main_title

-- the key that names and titles make: by the name in the 1XX and a title, where there is a name
abbrev pub key_of : List ℕ → List ℕ → List ℕ → List ℕ → List ℕ → List ℕ → List ℕ
key_of name title main_title title245 least own = if is_empty name then key_without_name main_title title245 least own else name ++ codes "/" ++ title

-- LIB.CTL
abbrev pub own_name : RecordId → List ℕ
own_name id = id.library ++ codes "." ++ id.control

-- the key with these names, of the 1XX and the least of the 7XX
abbrev pub key_of_names : List ℕ → List ℕ → Option Field → Option Field → Field → RecordId → List ℕ
key_of_names name least main uniform title id =
    key_of name (or_else (uniform_title uniform) (title245_of title)) (main_title main) (title245_of title) least (own_name id)

-- the work key of a record, or of an edition under its least contributor
abbrev pub work_key : Option Field → Option Field → Field → List Field → RecordId → List ℕ
work_key main uniform title added id = key_of_names (main_name main) (least_name added) main uniform title id
