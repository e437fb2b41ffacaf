-- Worked texts: what is written for a small world, and what is read of texts that differ from it.
use Rattle.std.specs.Prelude.{◌≡◌, ℕ, List, [], ◌∷◌, ◌++◌, codes, Ok, Err, map as each}
use Rattle.std.specs.List.{range_with_len}
use Rattle.scene_validate.specs.Parts.{world_of}
use Rattle.scene_validate.specs.Examples.{small}
use Rattle.scene_json_forms.specs.declared.fault.FileFault.TheVariants.{NotJson, UnknownKey, BadField, BadVersion, BadWorld}
use Rattle.scene_file.specs.Text.{saved}
use Rattle.scene_file.specs.Scene.{loaded}

-- the text of a scene of kind A, an Int, at tick 1, without links and resources
abbrev pub scene_of : (free generations limit rows : List ℕ) → List ℕ
scene_of free generations limit rows =
    codes "{\"children\":[],\"free\":" ++ free ++ codes ",\"generations\":" ++ generations
    ++ codes ",\"kinds\":[[\"A\",\"Int\"]],\"limit\":" ++ limit ++ codes ",\"resources\":[],\"scene\":1,\"tables\":[{\"kinds\":[0],\"rows\":"
    ++ rows ++ codes "}],\"tick\":1}"

-- the generations of one index, which has come to its last
abbrev pub old : List ℕ
old = codes "[4294967295]"

-- a row of these cells, of an entity
abbrev pub row_of : (cells entity : List ℕ) → List ℕ
row_of cells entity = codes "{\"cells\":" ++ cells ++ codes ",\"entity\":\"" ++ entity ++ codes "\"}"

-- a row of the entity that such an index has last, with a number since tick 1
abbrev pub last_row : List ℕ
last_row = row_of (codes "[[5,1,1]]") (codes "0v4294967295")

-- the small scene with these rows in its one table
abbrev pub with_rows : List ℕ → List ℕ
with_rows rows = scene_of (codes "[]") old (codes "2") rows

-- the text of the small world, whole
abbrev pub small_text : List ℕ
small_text =
    codes "{\"children\":[],\"free\":[],\"generations\":[4294967295],\"kinds\":[[\"A\",\"Int\"]],\"limit\":2,\"resources\":[],\"scene\":1,"
    ++ codes "\"tables\":[{\"kinds\":[0],\"rows\":[{\"cells\":[[5,1,1]],\"entity\":\"0v4294967295\"}]}],\"tick\":1}"

-- it is written, with a newline, and read again, also with white space and in another order of keys
abbrev pub SmallIsSavedAndLoaded : Type 0
SmallIsSavedAndLoaded =
    (saved (world_of small) ≡ small_text ++ 10 ∷ [])
    × (with_rows (codes "[" ++ last_row ++ codes "]") ≡ small_text)
    × (loaded small_text ≡ Ok (world_of small))
    × (loaded (codes " \n" ++ small_text ++ codes "\r\n\t") ≡ Ok (world_of small))
    × (loaded
    (codes "{\"tick\":0,\"scene\":1,\"tables\":[],\"resources\":[],\"limit\":2,\"kinds\":[],\"generations\":[],\"free\":[],\"children\":[]}")
    ≡ Ok (world_of (record small { schema = []; tick = 0; generations = []; tables = [] })))

-- bytes that are no JSON
abbrev pub NoJson : Type 0
NoJson =
    (loaded [] ≡ Err NotJson)
    × (loaded (255 ∷ []) ≡ Err NotJson)
    × (loaded (small_text ++ small_text) ≡ Err NotJson)
    × (loaded (codes "{\"scene\":1") ≡ Err NotJson)
    × (loaded (codes "{\"scene\":1e400}") ≡ Err NotJson)
    × (loaded (each (λ _. 91) (range_with_len 0 128) ++ each (λ _. 93) (range_with_len 0 128)) ≡ Err NotJson)
    × (loaded (each (λ _. 91) (range_with_len 0 127) ++ each (λ _. 93) (range_with_len 0 127)) ≡ Err (BadField []))

-- the head: an object with a version that is read; of a key that stands twice the last value counts
abbrev pub HeadFaults : Type 0
HeadFaults =
    (loaded (codes "[]") ≡ Err (BadField []))
    × (loaded (codes "{}") ≡ Err (BadField (codes "scene")))
    × (loaded (codes "{\"scene\":-0}") ≡ Err (BadField (codes "scene")))
    × (loaded (codes "{\"scene\":1.0}") ≡ Err (BadField (codes "scene")))
    × (loaded (codes "{\"scene\":18446744073709551616}") ≡ Err (BadField (codes "scene")))
    × (loaded (codes "{\"scene\":3}") ≡ Err (BadVersion 3))
    × (loaded (codes "{\"scene\":1,\"x\":0}") ≡ Err (UnknownKey (codes "x")))
    × (loaded (codes "{\"scene\":1,\"\":0}") ≡ Err (UnknownKey []))
    × (loaded (codes "{\"scene\":1}") ≡ Err (BadField (codes "children")))
    × (loaded (codes "{\"scene\":3,\"scene\":1}") ≡ Err (BadField (codes "children")))

-- the limit, and an unknown key before it
abbrev pub LimitFaults : Type 0
LimitFaults =
    (loaded (scene_of (codes "[]") old (codes "0") (codes "[]")) ≡ Err (BadField (codes "limit")))
    × (loaded (scene_of (codes "[]") old (codes "1048577") (codes "[]")) ≡ Err (BadField (codes "limit")))
    × (loaded (scene_of (codes "[]") old (codes "0,\"zz\":0") (codes "[]")) ≡ Err (UnknownKey (codes "zz")))

-- the rows and their cells
abbrev pub RowFaults : Type 0
RowFaults =
    (loaded (with_rows (codes "0")) ≡ Err (BadField (codes "tables[0].rows")))
    × (loaded (with_rows (codes "[[]]")) ≡ Err (BadField (codes "tables[0].rows[0]")))
    × (loaded (with_rows (codes "[{\"entity\":\"0v1\"}]")) ≡ Err (BadField (codes "tables[0].rows[0].cells")))
    × (loaded (with_rows (codes "[" ++ row_of (codes "[]") (codes "0v1") ++ codes "]")) ≡ Err (BadField (codes "tables[0].rows[0].cells")))
    × (loaded (with_rows (codes "[" ++ row_of (codes "[[5,1]]") (codes "0v1") ++ codes "]")) ≡ Err (BadField (codes "tables[0].rows[0].cells[0]")))
    × (loaded (with_rows (codes "[" ++ row_of (codes "[[true,1,1]]") (codes "0v1") ++ codes "]"))
    ≡ Err (BadField (codes "tables[0].rows[0].cells[0][0]")))
    × (loaded (with_rows (codes "[" ++ row_of (codes "[[5,1,-1]]") (codes "0v1") ++ codes "]"))
    ≡ Err (BadField (codes "tables[0].rows[0].cells[0][2]")))
    × (loaded (with_rows (codes "[" ++ row_of (codes "[[5,1,1]]") (codes "0v01") ++ codes "]")) ≡ Err (BadField (codes "tables[0].rows[0].entity")))
    × (loaded (with_rows (codes "[],\"\":0")) ≡ Err (UnknownKey (codes "tables[0].")))

-- the rules that a whole text breaks
abbrev pub BrokenTexts : Type 0
BrokenTexts =
    let rows : List ℕ = codes "[" ++ last_row ++ codes "]" in
    (loaded (scene_of (codes "[]") (codes "[4294967295,1]") (codes "1") rows) ≡ Err (BadWorld 1))
    × (loaded (scene_of (codes "[]") (codes "[0]") (codes "2") rows) ≡ Err (BadWorld 2))
    × (loaded (scene_of (codes "[]") (codes "[7]") (codes "2") rows) ≡ Err (BadWorld 3))
    × (loaded (with_rows (codes "[" ++ last_row ++ codes "," ++ last_row ++ codes "]")) ≡ Err (BadWorld 4))
    × (loaded (scene_of (codes "[0]") old (codes "2") rows) ≡ Err (BadWorld 5))
    × (loaded (scene_of (codes "[]") (codes "[4294967295,1]") (codes "2") rows) ≡ Err (BadWorld 6))
    × (loaded (with_rows (codes "[]")) ≡ Err (BadWorld 7))
    × (loaded (with_rows (codes "[" ++ row_of (codes "[[5,1,2]]") (codes "0v4294967295") ++ codes "]")) ≡ Err (BadWorld 10))

-- a text of these children, kinds, resources and tables
abbrev pub scene_with : (children kinds resources tables : List ℕ) → List ℕ
scene_with children kinds resources tables =
    codes "{\"children\":" ++ children ++ codes ",\"free\":[],\"generations\":[],\"kinds\":" ++ kinds
    ++ codes ",\"limit\":2,\"resources\":" ++ resources ++ codes ",\"scene\":1,\"tables\":" ++ tables ++ codes ",\"tick\":1}"

-- an empty list
abbrev pub none : List ℕ
none = codes "[]"

-- the children: an entity, the order of the parents, and an empty list, which is no fault of the form
abbrev pub ChildrenFaults : Type 0
ChildrenFaults =
    (loaded (scene_with (codes "[{\"list\":[\"0v1\",\"v\"],\"parent\":\"1v1\"}]") none none none) ≡ Err (BadField (codes "children[0].list[1]")))
    × (loaded (scene_with (codes "[{\"list\":[],\"parent\":0}]") none none none) ≡ Err (BadField (codes "children[0].parent")))
    × (loaded (scene_with (codes "[{\"list\":[],\"parent\":\"0v1\"},{\"list\":[],\"parent\":\"0v2\"}]") none none none)
    ≡ Err (BadField (codes "children[1]")))
    × (loaded (scene_with (codes "[{\"list\":[],\"parent\":\"0v1\"}]") none none none) ≡ Err (BadWorld 8))

-- the kinds: their parts, a name that isn't good and one that is taken
abbrev pub KindFaults : Type 0
KindFaults =
    (loaded (scene_with none (codes "[[\"A\"]]") none none) ≡ Err (BadField (codes "kinds[0]")))
    × (loaded (scene_with none (codes "[[\"9\",\"int\"]]") none none) ≡ Err (BadField (codes "kinds[0][1]")))
    × (loaded (scene_with none (codes "[[\"9\",\"Int\"]]") none none) ≡ Err (BadField (codes "kinds[0]")))
    × (loaded (scene_with none (codes "[[\"A\",\"Int\"],[\"A\",\"Tag\"]]") none none) ≡ Err (BadField (codes "kinds[1]")))

-- the resources: the cell comes before the name, and the name before the order
abbrev pub ResourceFaults : Type 0
ResourceFaults =
    (loaded (scene_with none none (codes "[{\"cell\":[\"Vec3\",[1,2],1,1],\"name\":\"9\"}]") none) ≡ Err (BadField (codes "resources[0].cell[1]")))
    × (loaded (scene_with none none (codes "[{\"cell\":[\"Vec3\",[1,2,\"\"],1,1],\"name\":\"9\"}]") none)
    ≡ Err (BadField (codes "resources[0].cell[1][2]")))
    × (loaded (scene_with none none (codes "[{\"cell\":[\"Tag\",true,1,1],\"name\":\"9\"}]") none) ≡ Err (BadField (codes "resources[0].name")))
    × (loaded (scene_with none none (codes "[{\"cell\":[\"Tag\",true,1,1],\"name\":\"n\"},{\"cell\":[\"Tag\",true,1,1],\"name\":\"n\"}]") none)
    ≡ Err (BadField (codes "resources[1]")))
    × (loaded (scene_with none none (codes "[{\"cell\":[\"Tag\",true,1,2],\"name\":\"n\"}]") none) ≡ Err (BadWorld 10))

-- the tables: their kinds, which are there and rise, and their own order
abbrev pub TableFaults : Type 0
TableFaults =
    let kinds : List ℕ = codes "[[\"A\",\"Int\"],[\"B\",\"Tag\"]]" in
    (loaded (scene_with none kinds none (codes "[{\"kinds\":[2],\"rows\":[]}]")) ≡ Err (BadField (codes "tables[0].kinds[0]")))
    × (loaded (scene_with none kinds none (codes "[{\"kinds\":[1,0],\"rows\":[]}]")) ≡ Err (BadField (codes "tables[0].kinds[1]")))
    × (loaded (scene_with none kinds none (codes "[{\"kinds\":[1],\"rows\":[]},{\"kinds\":[0],\"rows\":[]}]")) ≡ Err (BadField (codes "tables[1]")))
    × (loaded (scene_with none kinds none (codes "[{\"kinds\":[0],\"rows\":[]},{\"kinds\":[1],\"rows\":[]}]")) ≡ Err (BadWorld 7))
