mod Tiling
