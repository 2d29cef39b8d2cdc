pub mod SeenPaths
